-- Which listeners are lost, and how many there are.
use Rattle.std.proofs.Common.{◌≡◌, ◌==◌, ◌&&◌, not, inl, inr, ℕ, suc, false, List, [], ◌∷◌, length, map, refl, ap, sym, ◌∙◌}
use Rattle.std.proofs.lemmas.Bool.{cases_Bool, or_from}
use Rattle.dtx_values.specs.declared.row.Row.{Row}
use Rattle.dtx_values.specs.Row.{number_of}
use Rattle.dtx_values.specs.Table.{how_many, insert_by}
use Rattle.dtx_model.specs.declared.listener.Listener.{Listener}
use Rattle.dtx_model.specs.Observed.{come_back, hear, listener_number}
use Rattle.dtx_model.specs.Words.{has}
use Rattle.dtx_model.proofs.Bools.{and_never}
use Rattle.dtx_model.proofs.Counts.{how_many-insert_by, how_many-map, length-insert_by}
use Rattle.half_parts.specs.Linked.{is_lost}

-- where none is lost, this one isn't
pub none_lost : (e : ℕ) (ls : List Listener) → how_many is_lost ls ≡ 0 → has (λ l. (e == l.enlistment.value) && l.lost) ls ≡ false
none_lost e [] z = refl
none_lost e (l ∷ ls) z = elim (cases_Bool l.lost) [
  | inl lost ↦ let k = rw lost at z in absurd (cc)
  | inr kept ↦ let k = rw kept at z in or_from ((e == l.enlistment.value) && l.lost) (has (λ m. (e == m.enlistment.value) && m.lost) ls) (rw kept (and_never (e == l.enlistment.value))) (none_lost e ls k)
]

-- telling loses none
pub lost-hear : (e : ℕ) (ls : List Listener) → how_many is_lost (map (hear e) ls) ≡ how_many is_lost ls
lost-hear e ls = how_many-map is_lost (hear e) (λ l. refl) ls

-- where none is lost, none is when one comes back
pub lost-come_back : (e : ℕ) (ls : List Listener) → how_many is_lost ls ≡ 0 → how_many is_lost (map (come_back e) ls) ≡ 0
lost-come_back e [] z = refl
lost-come_back e (l ∷ ls) z = elim (cases_Bool l.lost) [
  | inl lost ↦ let k = rw lost at z in absurd (cc)
  | inr kept ↦ let k = rw kept at z in rw (kept, and_never (not (e == l.enlistment.value))) (lost-come_back e ls k)
]

-- nor is one more who isn't lost
pub lost-more : (l : Listener) (ls ms : List Listener) → l.lost ≡ false → ms ≡ insert_by listener_number l ls → how_many is_lost ls ≡ 0 → how_many is_lost ms ≡ 0
lost-more l ls ms kept more z = rw more (how_many-insert_by is_lost listener_number l ls ∙ rw kept z)

-- with a row more and a listener more there are as many listeners as rows
pub one_each : (l : Listener) (ls ms : List Listener) (x : Row) (xs : List Row) → ms ≡ insert_by listener_number l ls → length ls ≡ length xs → length ms ≡ length (insert_by number_of x xs)
one_each l ls ms x xs more same = ap length more ∙ length-insert_by listener_number l ls ∙ ap suc same ∙ sym (length-insert_by number_of x xs)
