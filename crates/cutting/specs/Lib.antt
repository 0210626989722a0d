-- Cutting a text by a table. Definitions, in reading order: Steps, Cut, Tiles, Pieces, Calls, Flat, Put, Left, Turns, Dead, Walk, Promises, Sample; the other files prove things of these.
-- Main gathers the theorems that are bought.
pub mod Steps
pub mod Cut
pub mod CutLaws
pub mod Tiles
pub mod Pieces
pub mod PieceLaws
pub mod TileLaws
pub mod Calls
pub mod Flat
pub mod Put
pub mod Turns
pub mod Dead
pub mod Walk
pub mod Promises
pub mod DeadLaws
pub mod WalkLaws
pub mod TurnLaws
pub mod LayLaws
pub mod Left
pub mod LeftLaws
pub mod Sample
pub mod Main
