pub mod ColumnLists
pub mod EncodedOn
pub mod UnencodedOn
pub mod RecoveredOn
pub mod Inner
