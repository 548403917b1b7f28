pub mod FieldLaws
pub mod ListLaws
pub mod Loop
pub mod Order
pub mod ValueLaws
pub mod WritingLaws
