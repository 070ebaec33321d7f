pub mod StepKeepsRule
pub mod LearnedBefore
pub mod LawsFromRule
