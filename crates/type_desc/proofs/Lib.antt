pub mod PlaceLaws
pub mod CellLaws
pub mod PeriodLaws
pub mod CountLaws
pub mod DescriptorLaws
pub mod ShapeLaws
