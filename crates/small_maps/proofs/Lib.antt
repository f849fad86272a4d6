pub mod HoldRows
pub mod RowsOfBlocks
