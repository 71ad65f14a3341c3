pub mod Woven
pub mod RowPlaces
pub mod PlaceLaws
pub mod DirectMeans
pub mod MeanLaws
