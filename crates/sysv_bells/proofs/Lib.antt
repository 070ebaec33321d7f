pub mod StepKeepsRule
pub mod SleeperKeepsRule
pub mod OpenedMeetsRule
pub mod LawsFromRule
pub mod OneBit
pub mod TakenWords
