pub mod DialogueLemmas
pub mod RowLemmas
pub mod WordLemmas
pub mod Parses
pub mod CallLemmas
pub mod StreamLemmas
pub mod WindowLemmas
pub mod SendLemmas
pub mod ClearLemmas
mod RefusalLemmas
mod LineLemmas
mod ObjectLemmas
mod StatedLemmas
mod HoldLemmas
mod SaveLemmas
mod SavedLemmas
mod EntryLemmas
mod LoadLemmas
mod JsonLemmas
mod CopyLemmas
mod QueueLineLemmas
mod OneEntryLemmas
mod RestoreLemmas
mod FileLemmas
mod RefillLemmas
mod WorkedFile
