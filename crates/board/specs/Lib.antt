-- What a reader must believe: a board's content, what the calls on a draft refuse and make of it, and what holds of it then;
pub mod Rows
pub mod Bounds
pub mod Content
pub mod Held
pub mod Refusals
pub mod Calls
pub mod Ease
-- moves, paths, complete readings, and packed moves;
pub mod Moves
pub mod Paths
pub mod Packing
-- rounds and the log that they reach, the records of a settled board, and what settling promises;
pub mod Settling
pub mod Logged
pub mod Boards
pub mod Promises
-- what the answers of a settled board mean, and what it means that the check accepts and refuses.
pub mod Meanings
pub mod Accepted
pub mod Faults
-- Executable twins, each with a theorem that it agrees. Where a move leads (`arrival_on`): as `Transition` of Moves says, by
-- `MovesComputed` of Promises. (The stack of Paths is the twin of its grammar, by `GrammarIsStack` there.)
pub mod Arrivals
-- The check: by `AcceptsReadings` of Accepted and `RefusesFaults` of Faults.
pub mod Checks
-- The settled log and the recorded reading: as `SettledLog` and `RecordedReading` of Settling say, by `Computed` of Promises.
pub mod Computing
-- What between, cost, path and moves answer: by `BetweenIsLeast`, `CostIsCheapest` and `WritesCheapestReading` of Meanings.
pub mod Questions
-- A worked example, computed by them.
pub mod Examples
-- What only inner functions and proofs name. (`Book` of Logs stands in a settled board's type too, and no public clause names
-- it.)
pub mod Checkers
pub mod Lowering
pub mod Minima
pub mod Minimizing
pub mod Winning
pub mod Logs
pub mod Spelled
pub mod Cursors
pub mod ByNumber
