-- What is followed to its end: all that the slot's variable leads to, each once. Assumes nothing.
use Prim.Native.Nat.{ℕ, zero, suc, ◌+◌, ◌≤◌}
use mathlib.Core.Path.{◌≡◌, refl, sym, subst}
use mathlib.Core.Option.{some}
use mathlib.Core.Logic.{◌⊎◌, inl, inr}
use mathlib.Core.List.Memᴰ
use mathlib.Core.List.{List, [], ◌∷◌, ◌++◌, Memᴰ}
use native.Mathlib.Omega.{arith}
use lib.ListN.{length}
use Rattle.image.specs.Ty.{Ty}
use Rattle.image.specs.Nesting.{member}
use Rattle.unifier_definition.specs.Log.{Binding, lookup}
use Rattle.unifier_definition.specs.Leads.{Mentions, Leads, leads_now, leads_on}
use Rattle.unifier_definition.proofs.Acyclic.{leads_trans}
use Rattle.unifier_definition.proofs.Mentioned.{not_member}
use Rattle.unifier_definition.proofs.Outcomes.{by_bool, by_option}
use Rattle.listing_definition.specs.Listing.{inside, follow}
use Rattle.listing_definition.specs.Exactly.{Led, Once, once_more}
use Rattle.listing_definition.specs.Turns.{unlisted}
use Rattle.listing_definition.proofs.Members.{is_member}
use Rattle.listing_definition.proofs.Turns.{follow_done, follow_skip, follow_list, next_fewer}

-- what is inside a variable's binding, and what it leads to at once, are the same
inside_leads : (bs : List Binding) (x y : ℕ) → Memᴰ y (inside bs x) → Leads (lookup bs) x y
unfolding inside
inside_leads bs x y m =
    by_option (lookup bs x)
    (λ e. absurd (Memᴰ.not-nil (rw (e, inside) at m)))
    (λ t e. leads_now e (record { among = rw (e, inside) at m }))

mentioned_inside : (bs : List Binding) (x y : ℕ) (t : Ty) → lookup bs x ≡ some t → Mentions t y → Memᴰ y (inside bs x)
unfolding inside
mentioned_inside bs x y t e m = rw (e, inside) m.among

led_on : (bs : List Binding) {slot x y : ℕ} → Led bs slot x → Leads (lookup bs) x y → Led bs slot y
led_on bs {slot} {x} {y} (inl e) l = inr (subst (λ (z : ℕ). Leads (lookup bs) z y) e l)
led_on bs (inr k) l = inr (leads_trans k l)

-- pending and listed variables on the way: the listed ones are closed but for the pending ones
pub record Followed (bs : List Binding) (slot : ℕ) (pending listed : List ℕ) : Type 0 where
  pub once : Once listed
  pub listed_led : (x : ℕ) → Memᴰ x listed → Led bs slot x
  pub pending_led : (x : ℕ) → Memᴰ x pending → Led bs slot x
  pub closed : (x y : ℕ) → Memᴰ x listed → Memᴰ y (inside bs x) → Memᴰ y listed ⊎ Memᴰ y pending
  pub start : Memᴰ slot listed ⊎ Memᴰ slot pending

-- after one that is listed already
skip : {bs : List Binding} {slot x : ℕ} {xs listed : List ℕ} → Followed bs slot (x ∷ xs) listed → Memᴰ x listed → Followed bs slot xs listed
skip {bs} {slot} {x} {xs} {listed} f m = record {
  once = f.once;
  listed_led = f.listed_led;
  pending_led = λ y n. f.pending_led y (Memᴰ.tail n);
  closed = λ a b p q. here b (f.closed a b p q);
  start = here slot f.start;
}
  where
    pended : (b : ℕ) → (b ≡ x) ⊎ Memᴰ b xs → Memᴰ b listed ⊎ Memᴰ b xs
    pended b (inl e) = inl (Memᴰ.cast e m)
    pended b (inr n) = inr n

    here : (b : ℕ) → Memᴰ b listed ⊎ Memᴰ b (x ∷ xs) → Memᴰ b listed ⊎ Memᴰ b xs
    here b (inl n) = inl n
    here b (inr n) = pended b (Memᴰ.cases_cons n)

-- after one that is listed now
list : {bs : List Binding} {slot x : ℕ} {xs listed : List ℕ} → Followed bs slot (x ∷ xs) listed → (Memᴰ x listed → ⊥) → Followed bs slot (inside bs x ++ xs) (x ∷ listed)
list {bs} {slot} {x} {xs} {listed} f out = record {
  once = once_more out f.once;
  listed_led = λ y n. is_led y (Memᴰ.cases_cons n);
  pending_led = λ y n. will y (Memᴰ.append_cases (inside bs x) n);
  closed = λ a b p q. shut a b q (Memᴰ.cases_cons p);
  start = here slot f.start;
}
  where
    x_led : Led bs slot x
    x_led = f.pending_led x (Memᴰ.head refl)

    is_led : (y : ℕ) → (y ≡ x) ⊎ Memᴰ y listed → Led bs slot y
    is_led y (inl e) = subst (λ (z : ℕ). Led bs slot z) (sym e) x_led
    is_led y (inr n) = f.listed_led y n

    will : (y : ℕ) → Memᴰ y (inside bs x) ⊎ Memᴰ y xs → Led bs slot y
    will y (inl n) = led_on bs x_led (inside_leads bs x y n)
    will y (inr n) = f.pending_led y (Memᴰ.tail n)

    pended : (b : ℕ) → (b ≡ x) ⊎ Memᴰ b xs → Memᴰ b (x ∷ listed) ⊎ Memᴰ b (inside bs x ++ xs)
    pended b (inl e) = inl (Memᴰ.head e)
    pended b (inr n) = inr (Memᴰ.append_right (inside bs x) n)

    here : (b : ℕ) → Memᴰ b listed ⊎ Memᴰ b (x ∷ xs) → Memᴰ b (x ∷ listed) ⊎ Memᴰ b (inside bs x ++ xs)
    here b (inl n) = inl (Memᴰ.tail n)
    here b (inr n) = pended b (Memᴰ.cases_cons n)

    shut : (a b : ℕ) → Memᴰ b (inside bs a) → (a ≡ x) ⊎ Memᴰ a listed → Memᴰ b (x ∷ listed) ⊎ Memᴰ b (inside bs x ++ xs)
    shut a b q (inl e) = inr (Memᴰ.append_left xs (subst (λ (z : ℕ). Memᴰ b (inside bs z)) e q))
    shut a b q (inr n) = here b (f.closed a b n q)

-- as many turns as there are variables to come are enough: nothing is pending then
pub follow_ends : (n : ℕ) (bs : List Binding) (slot : ℕ) (pending listed : List ℕ) → length pending + unlisted listed bs ≤ n → Followed bs slot pending listed → Followed bs slot [] (follow n bs pending listed)
follow_ends zero bs slot [] listed l f = rw follow_done f
follow_ends zero bs slot (x ∷ xs) listed l f = absurd (omega arith)
follow_ends (suc n) bs slot [] listed l f = rw follow_done f
follow_ends (suc n) bs slot (x ∷ xs) listed l f =
    by_bool (member x listed)
    (λ e. rw (follow_skip n bs x xs listed e) (follow_ends n bs slot xs listed (omega arith) (skip f (is_member x listed e))))
    (λ e. rw (follow_list n bs x xs listed e) (follow_ends n bs slot (inside bs x ++ xs) (x ∷ listed) (omega (arith, next_fewer bs x xs listed e)) (list f (not_member x listed e))))

ended : {x : ℕ} {xs : List ℕ} → Memᴰ x xs ⊎ Memᴰ x [] → Memᴰ x xs
ended (inl k) = k
ended (inr k) = absurd (Memᴰ.not-nil k)

-- the slot's own variable is listed then
pub followed_first : {bs : List Binding} {slot : ℕ} {xs : List ℕ} → Followed bs slot [] xs → Memᴰ slot xs
followed_first f = ended f.start

-- and all that a listed one leads to
pub followed_on : {bs : List Binding} {slot : ℕ} {xs : List ℕ} → Followed bs slot [] xs → (x y : ℕ) → Memᴰ x xs → Leads (lookup bs) x y → Memᴰ y xs
followed_on {bs} f x y m (leads_now {t = t} e n) = ended (f.closed x y m (mentioned_inside bs x y t e n))
followed_on {bs} f x y m (leads_on {y = z} {t = t} e n l) = followed_on f z y (ended (f.closed x z m (mentioned_inside bs x z t e n))) l
