pub mod Pack
pub mod PackLaws
pub mod PlanLaws
pub mod WalkLaws
