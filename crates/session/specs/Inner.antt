pub mod WordRead
