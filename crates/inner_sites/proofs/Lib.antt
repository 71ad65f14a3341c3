pub mod StepDistances
pub mod Surroundings
pub mod Stages
pub mod OwnColumns
pub mod RowReads
pub mod HalfRowReads
pub mod InnerSites
