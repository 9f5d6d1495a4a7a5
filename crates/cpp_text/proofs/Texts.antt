-- What each part of phase 4 is refused for, the whole is.
use Rattle.std.proofs.Common.{inl, inr}
use Rattle.fsc_base.specs.declared.place.Place.{Place}
use Rattle.fsc_base.specs.declared.place.Refused.{Refused}
use Rattle.fsc_base.specs.declared.place.Refused.TheVariants as refusals
use Rattle.fsc_base.specs.declared.rule.Rule.{Rule}
use Rattle.cpp_expand.specs.Causes.{Refuses, RefusesAt, OfExpand, OfDefine, OfUndefine}
use Rattle.cpp_cond.specs.Causes.{OfCondition}
use Rattle.cpp_text.specs.Causes.{OfText, OfFile}

condition_rule : (rule : Rule) → OfCondition rule → OfText rule
condition_rule rule (inl h) = inr (inr (inr (inl h)))
condition_rule rule (inr h) = inr (inl h)

pub of_expand : (refused : Refused) → Refuses OfExpand refused → Refuses OfText refused
of_expand (refusals.Broken broken) h = inr (inl h)
of_expand refusals.NoMemory h = tt

pub of_condition : (refused : Refused) → Refuses OfCondition refused → Refuses OfText refused
of_condition (refusals.Broken broken) h = condition_rule broken.rule h
of_condition refusals.NoMemory h = tt

pub of_define : (place : Place) (refused : Refused) → RefusesAt OfDefine place refused → Refuses OfText refused
of_define place (refusals.Broken broken) h = inr (inr (inl h.0))
of_define place refusals.NoMemory h = tt

pub of_undefine : (place : Place) (refused : Refused) → RefusesAt OfUndefine place refused → Refuses OfText refused
of_undefine place (refusals.Broken broken) h = inr (inr (inl (inr h.0)))
of_undefine place refusals.NoMemory h = tt

pub of_file : (refused : Refused) → Refuses OfFile refused → Refuses OfText refused
of_file (refusals.Broken broken) h = inr (inr (inr (inr h)))
of_file refusals.NoMemory h = tt
