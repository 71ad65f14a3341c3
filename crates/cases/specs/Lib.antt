pub mod Row
pub mod GlazeCases
pub mod StagedPlanes
pub mod FrameCases
pub mod AnswerCases
pub mod FileCases
pub mod Table
