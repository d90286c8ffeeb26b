pub mod WorkSlices
