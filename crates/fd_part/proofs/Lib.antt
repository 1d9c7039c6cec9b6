pub mod BatchLists
pub mod BatchSizes
pub mod FaultLaws
pub mod Orders
pub mod RangeLaws
pub mod ShortFrames
pub mod Sums
