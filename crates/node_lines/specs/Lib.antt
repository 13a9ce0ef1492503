pub mod Shown
pub mod NextString
pub mod StringLines
pub mod FigureLines
