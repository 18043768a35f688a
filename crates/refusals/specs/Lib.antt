pub mod EarlyRefusals
pub mod InputFiles
pub mod LookUps
pub mod OneStep
pub mod RefusalLine
pub mod Refused
pub mod SameAnswers
pub mod Words
