pub mod Record
pub mod RecordLaws
pub mod RoundTrip
