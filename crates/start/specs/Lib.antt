-- Vector 0 in the pool, book by book. Definition: Start; StartLaws and BeginLaws prove what the code's proofs cite.
-- What a rule's term is stands in rule, what a vector in the work area is in vector.
pub mod Start
pub mod StartLaws
pub mod BeginLaws
