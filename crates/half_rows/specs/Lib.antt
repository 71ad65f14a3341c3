pub mod Sources
pub mod Reading
pub mod Mirror
pub mod Norths
pub mod Beside
pub mod SiteGradients
pub mod GradientRow
