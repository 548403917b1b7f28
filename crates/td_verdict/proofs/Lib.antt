pub mod Worked
pub mod WorkedQueries
pub mod Schemas
pub mod ColumnValues
