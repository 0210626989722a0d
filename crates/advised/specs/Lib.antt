-- What people are told of a refusal of words.rules. Definitions, in reading order: Advice, which says it; Bought, what the theorems say of it; Sample, which shows it.
-- Main gathers the theorems that are bought; the other files prove them.
pub mod Advice
pub mod Bought
pub mod Sample
pub mod CaseLaws
pub mod ByteLaws
pub mod StartLaws
pub mod TellingLaws
pub mod SampleLaws
pub mod Main
