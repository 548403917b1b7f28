pub mod AppendLaws
pub mod AppendTold
pub mod CrashLaws
pub mod ItemLaws
pub mod LogLaws
pub mod ToldLaws
pub mod WritingLaws
