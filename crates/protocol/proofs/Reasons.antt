-- Laws of reasons to refuse (specs/Refusals.antt).
--
-- In order: how a list of reasons ends (`First`), one reason at a time, as code tests them, and that the first counts; that a
-- list ends in a grant exactly when no reason applies, and so each does not; what holds of every decision of a list.
-- Assumes nothing.
use Prim.Native.Nat.{ℕ, ◌<◌}
use mathlib.Core.Path.{◌≡◌, refl, sym, ◌∙◌}
use mathlib.Core.Bool.{Bool, true, false, cond, not, ◌&&◌}
use mathlib.Core.List.{List, [], ◌∷◌}
use Rattle.std.specs.Prelude.{Ok, Err}
use borrow.Author.Tests.{not-true}
use lib.ListN.{length, get_or}
use Rattle.octets.specs.Lists.{every}
use Rattle.octets.proofs.Lists.{every-at}
use Rattle.protocol.specs.declared.Refusal.TheVariants.{Failed}
use Rattle.protocol.specs.declared.Failure.TheVariants.{Clash}
use Rattle.protocol.specs.Answers.{is_grant, Decision}
use Rattle.protocol.specs.Refusals.{Reason, when, first_of}

-- reasons are passed until one applies, or none is left
pub data First : List Reason → Decision → Type 0 where
  none : First [] (Ok tt)
  stop : {r : Reason} {rs : List Reason} → r.applies ≡ true → First (r ∷ rs) (Err r.refusal)
  pass : {r : Reason} {rs : List Reason} {d : Decision} → r.applies ≡ false → First rs d → First (r ∷ rs) d

pub first-counts : {rs : List Reason} {d : Decision} → First rs d → first_of rs ≡ d
unfolding first_of
first-counts none = refl
first-counts (stop e) = rw e
first-counts (pass e f) = rw e (first-counts f)

-- every list ends so
pub ends-first : (rs : List Reason) → First rs (first_of rs)
unfolding first_of
ends-first [] = none
ends-first (r ∷ rs) = by r.applies refl (ends-first rs)
  where
    by : (b : Bool) → r.applies ≡ b → First rs (first_of rs) → First (r ∷ rs) (cond b (Err r.refusal) (first_of rs))
    by true e rest = stop e
    by false e rest = pass e rest

-- nothing is refused exactly when no reason applies
pub grant-every : (rs : List Reason) → is_grant (first_of rs) ≡ every (λ r. not r.applies) rs
unfolding first_of is_grant every
grant-every [] = refl
grant-every (r ∷ rs) = by r.applies (grant-every rs)
  where
    by : (b : Bool) → is_grant (first_of rs) ≡ every (λ r. not r.applies) rs
        → is_grant (cond b (Err r.refusal) (first_of rs)) ≡ (not b && every (λ r. not r.applies) rs)
    by true e = refl
    by false e = e

-- stands past the last reason
abbrev no_reason : Reason
no_reason = when false (Failed Clash)

pub unrefused : (rs : List Reason) → is_grant (first_of rs) ≡ true → (i : ℕ) → i < length rs → (get_or rs i no_reason).applies ≡ false
unrefused rs e i h = not-true (get_or rs i no_reason).applies (every-at (λ r. not r.applies) rs no_reason (sym (grant-every rs) ∙ e) i h)

-- what holds of each refusal, and of a grant if no reason applies, holds of what is decided
abbrev pub EachRefusal : (Decision → Type 0) → List Reason → Type 0
EachRefusal P [] = Unit {0}
EachRefusal P (r ∷ rs) = P (Err r.refusal) × EachRefusal P rs

pub decided : (P : Decision → Type 0) (rs : List Reason) → EachRefusal P rs → (is_grant (first_of rs) ≡ true → P (Ok tt)) → P (first_of rs)
unfolding first_of is_grant
decided P [] each granted = granted refl
decided P (r ∷ rs) each granted = by r.applies (decided P rs each.1) granted
  where
    by : (b : Bool) → ((is_grant (first_of rs) ≡ true → P (Ok tt)) → P (first_of rs))
        → (is_grant (cond b (Err r.refusal) (first_of rs)) ≡ true → P (Ok tt)) → P (cond b (Err r.refusal) (first_of rs))
    by true rest granted = each.0
    by false rest granted = rest granted
