-- What is said of one transaction.
use Rattle.std.proofs.Common.{◌≡◌, ℕ, true, false, List, [], map, refl}
use Rattle.std.specs.List.{flat_map, range_with_len}
use Rattle.dtx_values.specs.declared.number.ScopeNo.{ScopeNo}
use Rattle.dtx_values.specs.declared.script.Line.{Line}
use Rattle.dtx_model.specs.Traces.{Placed}
use Rattle.dtx_model.specs.Words.{has, past_of}
use Rattle.outcome_reasons.specs.Histories.{Numbered}
use Rattle.outcome_reasons.specs.Whys.{is_began, said_if, said_of, whys, whys_of}

pub not-said : (s : List Line) (qs : List (ℕ × ScopeNo)) (t : ℕ) (h : Numbered) → has is_began h.entries ≡ false → said_if s qs t h ≡ []
not-said s qs t h k = rw k refl

pub was-said : (s : List Line) (qs : List (ℕ × ScopeNo)) (t : ℕ) (h : Numbered) → has is_began h.entries ≡ true → said_if s qs t h ≡ map (λ w. (t, w)) (said_of s qs h.numbers h.entries)
was-said s qs t h k = rw k refl

-- what is said of all of them
pub all-said : (s : List Line) (T : List Placed) → flat_map (whys_of s (past_of T)) (range_with_len 1 256) ≡ whys s T
unfolding whys
all-said s T = refl
