mod Fronts
mod CellFronts
mod CauseFronts
mod ReplyFronts
mod LineFronts
