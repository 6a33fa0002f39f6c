-- A member's mode: when it turns, and what a member loses by it.
use Rattle.std.specs.Prelude.{ℕ, ◌*◌, Bool, true, false, cond, not, ◌&&◌, nat_le, nat_lt}
use Rattle.margin.specs.Sheets.{Charge, need_of}
use Rattle.market.specs.declared.events.Reason.TheVariants.{TurnedToReduction}
use Rattle.market.specs.declared.members.Mode.{Mode}
use Rattle.market.specs.declared.members.Mode.TheVariants.{Reduction, Normal}
use Rattle.market.specs.Markets.{Market, Told, with_member, is_of}
use Rattle.market.specs.Cancels.{cancelling}
use Rattle.market.specs.TableRows.{Member}

-- At 95 hundredths of the deposit or more the mode is reduction; below 90 it is normal; between them it stays as it was.
abbrev pub judged : ℕ → ℕ → Mode → Mode
judged need deposit mode =
    cond (nat_le (19 * deposit) (20 * need)) Reduction (cond (nat_lt (10 * need) (9 * deposit)) Normal mode)

abbrev pub is_reduction : Mode → Bool
is_reduction Reduction = true
is_reduction Normal = false

abbrev pub falls : Mode → Mode → Bool
falls before after = not (is_reduction before) && is_reduction after

abbrev pub with_mode : Member → Mode → Member
with_mode member mode =
    record { admitted = member.admitted; benchmarks = member.benchmarks; limits = member.limits; deposit = member.deposit; mode = mode }

abbrev pub with_deposit : Member → ℕ → Member
with_deposit member deposit =
    record { admitted = member.admitted; benchmarks = member.benchmarks; limits = member.limits; deposit = deposit; mode = member.mode }

abbrev pub judged_member : ℕ → Member → Member
judged_member need member = with_mode member (judged need member.deposit member.mode)

module _ (charge : Charge) where
  abbrev pub need : Market → ℕ → ℕ
  need M m = need_of charge M.sheet m

  -- Whether judging takes the member from normal to reduction.
  abbrev pub has_fallen : Market → ℕ → Bool
  has_fallen M m = falls (M.members m).mode (judged (need M m) (M.members m).deposit (M.members m).mode)

  -- A member that falls loses its pending orders in every instrument.
  abbrev pub judge : Market → ℕ → Told
  judge M m =
      cancelling (λ order. has_fallen M m && is_of m order) TurnedToReduction
      (with_member M m (judged_member (need M m) (M.members m)))
