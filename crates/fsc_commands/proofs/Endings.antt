-- What an ending of a meaning says.
use Rattle.std.proofs.Common.{◌≡◌, ℕ, ◌⊎◌, inl, inr, refl, ap, sym, ◌∙◌}
use Rattle.fsc_base.specs.declared.end.End.{End}
use Rattle.fsc_base.specs.declared.end.End.TheVariants as end
use Rattle.c_mean.specs.declared.run.Meant.{Meant}
use Rattle.c_mean.specs.declared.run.Meant.TheVariants as meant
use Rattle.fsc_ending.specs.declared.ending.Ending.{Ending}
use Rattle.fsc_ending.specs.declared.ending.Ending.TheVariants as ending
use Rattle.fsc_ending.specs.declared.ending.Form.TheVariants.{Text}
use Rattle.fsc_ending.specs.Sort.{ran, sort_of, IsOfSort}
use Rattle.fsc_commands.specs.Ends.{ending_of_end, ending_of_meant}
use Rattle.fsc_commands.specs.Meaning.{IsMeant}

-- an end of a meaning's own is a run's
end_sorted : (e : End) → sort_of (ending_of_end e) ≡ ran
end_sorted (end.Exit status) = refl
end_sorted (end.Access block offset width) = refl
end_sorted (end.ReadOnly block offset width) = refl
end_sorted (end.Call block offset) = refl
end_sorted end.Divide = refl
end_sorted end.Abort = refl
end_sorted end.Blocks = refl
end_sorted end.Depth = refl

-- what a meaning's ending is: a run's; or a text that is not built, which fits nowhere in a program; or the bound
pub sorted : (said : Ending) (cost : ℕ) → IsMeant said cost → IsOfSort ran said ⊎ ((said ≡ ending.NotBuilt Text) ⊎ (said ≡ ending.CostUsed cost))
sorted said cost (meant.Ended e, is) = inl (inl (ap sort_of is ∙ end_sorted e))
sorted said cost (meant.Cost, is) = inr (inr is)
sorted said cost (meant.ReadFault, is) = inl (inl (ap sort_of is))
sorted said cost (meant.WriteFault, is) = inl (inl (ap sort_of is))
sorted said cost (meant.NoMemory, is) = inl (inr is)
sorted said cost (meant.Misfit, is) = inr (inl is)

end_costless : (e : End) (k : ℕ) → ending_of_end e ≡ ending.CostUsed k → ⊥
end_costless (end.Exit status) k is = cc
end_costless (end.Access block offset width) k is = cc
end_costless (end.ReadOnly block offset width) k is = cc
end_costless (end.Call block offset) k is = cc
end_costless end.Divide k is = cc
end_costless end.Abort k is = cc
end_costless end.Blocks k is = cc
end_costless end.Depth k is = cc

-- the cost that it names is the one up to which it was followed
pub cost_named : (said : Ending) (cost k : ℕ) → IsMeant said cost → said ≡ ending.CostUsed k → k ≡ cost
cost_named said cost k (meant.Ended e, is) same = absurd (end_costless e k (sym is ∙ same))
cost_named said cost k (meant.Cost, is) same = let e : ending.CostUsed cost ≡ ending.CostUsed k = sym is ∙ same in cc
cost_named said cost k (meant.ReadFault, is) same = absurd cc
cost_named said cost k (meant.WriteFault, is) same = absurd cc
cost_named said cost k (meant.NoMemory, is) same = absurd cc
cost_named said cost k (meant.Misfit, is) same = absurd cc

-- the input's fault comes of that alone
pub of_read : (m : Meant) (cost : ℕ) → ending_of_meant m cost ≡ ending.ReadFault → m ≡ meant.ReadFault
of_read meant.ReadFault cost is = refl
of_read (meant.Ended (end.Exit status)) cost is = absurd cc
of_read _ cost is = absurd cc

-- and the output's of that
pub of_write : (m : Meant) (cost : ℕ) → ending_of_meant m cost ≡ ending.WriteFault → m ≡ meant.WriteFault
of_write meant.WriteFault cost is = refl
of_write (meant.Ended (end.Exit status)) cost is = absurd cc
of_write _ cost is = absurd cc

-- the notes' fault comes of none
pub of_note : (m : Meant) (cost : ℕ) → ending_of_meant m cost ≡ ending.NoteFault → ⊥
of_note meant.Cost cost is = cc
of_note (meant.Ended (end.Exit status)) cost is = cc
of_note _ cost is = cc
