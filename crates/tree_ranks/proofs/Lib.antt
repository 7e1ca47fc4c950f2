pub mod SelectLaws
pub mod PlaceLaws
pub mod RankLaws
pub mod MemberLaws
