pub mod ArcRows
pub mod ArcTexts
pub mod CommandRows
pub mod FlatLines
pub mod FlatText
pub mod Looking
pub mod RowsWork
