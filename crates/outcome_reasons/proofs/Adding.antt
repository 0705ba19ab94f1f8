-- Lists to which an item's part is added after another.
use Rattle.std.proofs.Common.{◌≡◌, ℕ, ◌+◌, ◌<◌, List, [], ◌∷◌, ◌++◌, append_assoc, append-nil, ap, get_or, length, sym, take, ◌∙◌}
use Rattle.std.specs.List.{flat_map}
use Rattle.std.proofs.lemmas.Grind.{flat_map-append}
use Rattle.std.proofs.lemmas.List.{take_more}

-- one item's part more
pub part-more : {X A : Type 0} (f : X → List A) (init : List A) (xs : List X) (i : ℕ) (x : X) → i < length xs → x ≡ get_or xs i x → (init ++ flat_map f (take i xs)) ++ f x ≡ init ++ flat_map f (take (i + 1) xs)
part-more f init xs i x k e =
    append_assoc init (flat_map f (take i xs)) (f x)
    ∙ ap (λ v. init ++ v)
    (ap (λ v. flat_map f (take i xs) ++ v) (sym (append-nil (f x))) ∙ sym (flat_map-append f (take i xs) (x ∷ [])) ∙ ap (flat_map f) (ap (λ y. take i xs ++ y ∷ []) e ∙ sym (take_more xs i x k)))
