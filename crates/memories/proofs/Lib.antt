pub mod OpenedRows
