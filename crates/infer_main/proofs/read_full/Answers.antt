-- A read puts what the reader gave behind what was there.
use Rattle.std.proofs.Common.{◌≡◌, ◌≤◌, ◌+◌, ℕ, List, ◌++◌, length, take, drop, arith, rules, ap, ◌∙◌, sym, subst, le_refl, take-add, drop_at, length-take-le}
use Rattle.std.proofs.lemmas.List.{take-append-le}
use Rattle.std.proofs.lemmas.Slice.{take-put_mid_below}
use Rattle.std.proofs.KnownBytes.{Consumes-trans}
use Rattle.std.specs.Io.KnownBytes.{Consumes}
use borrow.Rule.Slice.PartMut.{put_mid, post_of}
use Rattle.infer_main.proofs.read_full.Goals as goal

take_part : (a k n : ℕ) (xs ys : List ℕ) → a ≤ length xs → n ≤ length ys → take (a + n) (put_mid a k xs ys) ≡ take a xs ++ take n ys
take_part a k n xs ys p q =
    take-add a n (put_mid a k xs ys)
    ∙ ap (λ l. l ++ take n (drop a (put_mid a k xs ys))) (take-put_mid_below a k xs ys a (le_refl a) p)
    ∙ ap (λ l. take a xs ++ take n l) (drop_at (take a xs) (ys ++ post_of a k xs) a (length-take-le a xs p))
    ∙ ap (λ l. take a xs ++ l) (take-append-le n ys (post_of a k xs) q)

pub loop-preserved : goal.loop-preserved
loop-preserved g c = record {
  turns = omega arith;
  within = search rules;
  kept = search rules;
  read = subst (Consumes _ _) (sym (take_part _ _ _ _ _ c.loop.invariant.within c.in_ok-n.ensures.bound.0)) (Consumes-trans _ _ _ _ _ c.loop.invariant.read c.in_ok-n.ensures.bytes.0);
}
