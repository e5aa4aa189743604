pub mod ShownRows
pub mod CountedRows
pub mod StoredRows
pub mod FirstRow
pub mod ListedRows
