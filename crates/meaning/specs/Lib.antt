-- What word rules mean. Definitions, in reading order: Re, Lang, Means, Order, Normal (with Join, which src declares), Derive, Limited, Rules, Words, Sample, Clauses, Forms, Lengths, Shape, Edges.
-- The other files here and those in proofs/ prove things of these; proofs/Main.antt gathers the theorems that are bought.
pub mod Re
pub mod PartLaws
pub mod Lang
pub mod LangLaws
pub mod Means
pub mod Order
pub mod OrderLaws
pub mod RowLaws
pub mod Normal
pub mod JoinLaws
pub mod Derive
pub mod Tests
pub mod PlainMeans
pub mod Limited
pub mod Rules
pub mod Words
pub mod Sample
pub mod Clauses
pub mod Forms
pub mod Lengths
pub mod Shape
pub mod SizeLaws
pub mod Edges
