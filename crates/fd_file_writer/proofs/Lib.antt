pub mod ChunkPages
pub mod CountLaws
pub mod FileLaws
pub mod PageCells
pub mod SizeLaws
pub mod TextLaws
