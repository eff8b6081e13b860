pub mod Le
pub mod LeLaws
pub mod Room
pub mod RoomLaws
pub mod LenEnc
pub mod LenEncLaws
pub mod Fields
pub mod TableLaws
