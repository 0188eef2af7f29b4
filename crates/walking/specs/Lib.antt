-- What a step of a descent leaves, and that it is the machine's step.
pub mod Traces
pub mod Holes
pub mod Hands
pub mod Levels
pub mod Roots
pub mod Enters
pub mod Pairs
pub mod Walking
pub mod Sites
pub mod Ways
pub mod AloneMoves
pub mod PairMoves
pub mod Ready
pub mod Readies
pub mod Runs
