pub mod PickedLaws
pub mod MarkLaws
pub mod CountingLaws
pub mod StrikeLaws
pub mod StartLaws
pub mod WritingLaws
