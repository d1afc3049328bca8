pub mod AdmissionExamples
pub mod ConditionExamples
pub mod ExampleTrees
pub mod Examples
pub mod Rows
pub mod ValidityExamples
pub mod ValueExamples
