pub mod Building
pub mod FileRecords
pub mod Parsing
pub mod Pasting
pub mod RecordTrips
pub mod RoundTrips
pub mod UnitLists
