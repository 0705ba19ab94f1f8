-- What a call made of the manager that a handle holds, which is taken out of it and put back.
use Rattle.std.proofs.Common.{◌≡◌, Option, Some, subst, sym}
use Rattle.std.specs.Prelude.{ℤ}
use Rattle.host_manager.specs.Host.{HostView}
use Rattle.wirtozhak_c.specs.Holding.{Calls, DoesWith}

-- the manager that was taken out is the one that was read; the one that was put back is what the call left
pub by_call : (does : HostView → HostView → ℤ → Type 0) (o p : Option HostView) (taken read left : HostView) (a b : ℤ)
    → o ≡ Some taken → read ≡ taken → p ≡ Some left → a ≡ b → does read left a → Calls does o p b
by_call does o p taken read left a b was same is code made =
    subst (λ (x : ℤ). Calls does o p x) code
    (subst (λ (y : Option HostView). Calls does o y a) (sym is)
    (subst (λ (x : Option HostView). Calls does x (Some left) a) (sym was)
    (subst (λ (v : HostView). does v left a) same made)))

-- the word said this
pub with_word : {A : Type 0} (code : ℤ) (does : A → HostView → HostView → ℤ → Type 0) (o : Option A) (x : A) (m n : HostView) (a : ℤ) → o ≡ Some x → does x m n a → DoesWith code does o m n a
with_word code does o x m n a is made = subst (λ (v : Option _). DoesWith code does v m n a) (sym is) made
