-- Values are those that their texts spell, and the place of a bad one is the least; from fronts of numbers up to fronts of rules.
-- UtcLaws says when a text of a moment in UTC is one. ValueLaws, LengthLaws, RuleFronts (`FrontsOfRulesAreTried`) and ValuePlaces wait for ical_values, whose readers are held to the
-- definitions by them; the others are steps.
pub mod CutLemmas
pub mod ValueLaws
pub mod LengthLaws
pub mod UtcLaws
pub mod BadValueLaws
pub mod NumberFronts
pub mod ListFronts
pub mod DayFronts
pub mod UntilFronts
pub mod RuleRows
pub mod RuleTable
pub mod PartFronts
pub mod RuleFronts
pub mod ValuePlaces
