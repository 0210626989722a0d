-- What is proved of normal form, derivatives, labels and first words; SampleTests, SampleHolds, FormsHold and LengthsHold have the lists computed.
-- Main gathers the theorems that are bought, the other files prove them, and the code's proofs cite those too.
-- They stand here and not in specs/, so that a definition made wrong is told by a proof that fails.
pub mod NormalMeans
pub mod NormalShape
pub mod DeriveMeans
pub mod LimitedLaws
pub mod RulesMean
pub mod WordsMean
pub mod FormsHold
pub mod LengthsHold
pub mod SampleTests
pub mod SampleHolds
pub mod ShapeLaws
pub mod FormLaws
pub mod MemberLaws
pub mod EdgeLaws
pub mod Main
