pub mod Counts
pub mod SleeperKeepsRule
pub mod RingerKeepsRule
pub mod OpenedMeetsRule
pub mod LawsFromRule
