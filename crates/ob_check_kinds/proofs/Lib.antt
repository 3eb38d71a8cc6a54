pub mod ShapeForms
pub mod KindForms
pub mod KindFits
