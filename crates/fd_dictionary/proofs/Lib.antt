pub mod DictionaryLaws
pub mod DictionaryPushes
pub mod EqualCells
pub mod PieceLaws
