-- Which text is a figure, that what is printed is read back, and worked examples.
pub mod Figures
pub mod FiguresLaws
pub mod ReadBackLaws
pub mod ExampleLaws
