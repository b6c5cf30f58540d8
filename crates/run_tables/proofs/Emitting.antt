-- A type is put out node by node: its first words, then what is inside. Assumes nothing.
use Prim.Native.Nat.{ℕ, ◌+◌, ◌≤◌, ◌<◌}
use mathlib.Core.Path.{◌≡◌, refl, sym, ap, ap₂, ◌∙◌, subst}
use mathlib.Core.List.{List, [], ◌∷◌, ◌++◌, flat_map}
use native.Mathlib.Nat.{le_refl}
use native.Mathlib.Numerals.{add-one}
use native.Mathlib.Omega.{arith}
use lib.ListN.{length, get_or, drop, drop_of_length-le}
use lib.Seq.{drop-cons}
use Rattle.image.specs.Ty.{Ty, poly, Tys, nil, cons, written, written_all}
use Rattle.unifier_nodes.specs.Work.{at, Rep}
use Rattle.unifier_nodes.specs.Walks.{Stands, ReadsNode}
use Rattle.unifier_nodes.specs.Operands.{Operands}
use Rattle.unifier_nodes.proofs.OperandLists.{Alone, list_of, list_length, operands_of}
use Rattle.unifier_nodes.specs.declared.node.Node.{Node}
use Rattle.unifier_nodes.specs.declared.node.Node.TheVariants.{Var, Primitive, Poly, ObjectMethod, Object, Function, Phi}
use Rattle.run_tables.specs.Output.{Sink, Target, emit, has_room, Lawful}
use Rattle.run_tables.specs.Writing.{Asks, Emits, AsksRow, EmitsRow}
use Rattle.run_tables.proofs.Sinks.{room_first, room_second, emit_both}

-- the first words of a node's type: all of them, but for a Function and a Phi
abbrev pub front : Node → List ℕ
front (Var s) = 0 ∷ s.0 ∷ []
front Primitive = 1 ∷ []
front Poly = 2 ∷ []
front ObjectMethod = 3 ∷ []
front (Object s) = 4 ∷ s ∷ []
front (Function k s m) = k ∷ s ∷ []
front (Phi a c) = 7 ∷ c ∷ []

list_written : (ts : Tys) → written_all ts ≡ flat_map written (list_of ts)
unfolding list_of written flat_map
list_written nil = refl
list_written (cons t ts) = ap (λ (ws : List ℕ). written t ++ ws) (list_written ts)

module _ {w : List ℕ} {lo n : ℕ} where
  -- a type by its node
  shown_alone : {node : Node} {t : Ty} → ReadsNode w lo n node → Alone node → Rep w lo (length w) n t → written t ≡ front node
  unfolding written
  shown_alone {node = Var s} {t} h a r =
      let q = h.shows (length w) t (le_refl _) r in ap written q.0 ∙ ap (λ (x : ℕ). 0 ∷ x ∷ []) (sym q.1)
  shown_alone {node = Primitive} {t} h a r = ap written (h.shows (length w) t (le_refl _) r)
  shown_alone {node = Poly} {t} h a r = ap written (h.shows (length w) t (le_refl _) r)
  shown_alone {node = ObjectMethod} {t} h a r = ap written (h.shows (length w) t (le_refl _) r)
  shown_alone {node = Object s} {t} h a r = ap written (h.shows (length w) t (le_refl _) r)
  shown_alone {node = Function k s m} h a r = absurd a
  shown_alone {node = Phi c d} h a r = absurd a

  shown_func : {k s m : ℕ} {t : Ty} → ReadsNode w lo n (Function k s m) → Rep w lo (length w) n t
      → (u : Ty) × (written t ≡ (k ∷ s ∷ []) ++ written u) × (m < n) × Rep w lo (length w) m u
  unfolding written
  shown_func {k} {s} {m} {t} h r =
      let q = h.shows (length w) t (le_refl _) r in
      (q.1, ap written q.2 ∙ ap (λ (x : ℕ). x ∷ s ∷ written q.1) (sym q.3), q.4, q.5)

  shown_phi : {a c : ℕ} {t : Ty} → ReadsNode w lo n (Phi a c) → Rep w lo (length w) n t
      → (ts : List Ty) × (written t ≡ (7 ∷ c ∷ []) ++ flat_map written ts) × (length ts ≡ c) × Operands w lo (length w) n a ts
  unfolding written
  shown_phi {a} {c} {t} h r =
      let q = h.shows (length w) t (le_refl _) r in (
        list_of q.0,
        ap written q.1 ∙ ap₂ (λ (x : ℕ) (ws : List ℕ). 7 ∷ x ∷ ws) (sym q.2) (list_written q.0),
        list_length q.0 ∙ sym q.2,
        operands_of (le_refl _) q.3,
      )

  module _ {S : Type 0} {k : Sink S} where
    -- a node that is asked for can be read
    pub asked_stands : {s : Target S} → Asks k w lo n s → Stands w lo n
    asked_stands A = record { top = length w; t = A.t; fits = le_refl _; rep = A.rep }

    -- a node with nothing inside
    pub asked_alone : {node : Node} {s : Target S} → ReadsNode w lo n node → Alone node → Asks k w lo n s → has_room k s (length (front node))
    asked_alone {s = s} h a A = subst (λ (ws : List ℕ). has_room k s (length ws)) (shown_alone h a A.rep) A.room

    pub emits_alone : {node : Node} {s s' : Target S} → ReadsNode w lo n node → Alone node → s' ≡ emit k s (front node) → Emits k w lo n s s'
    emits_alone {s = s} h a e = record { is = λ t r. e ∙ ap (emit k s) (sym (shown_alone h a r)) }

    module _ {s : Target S} where
      -- a Function: its first words, its return type
      module _ {kind shape m : ℕ} (h : ReadsNode w lo n (Function kind shape m)) where
        pub room_func : Asks k w lo n s → has_room k s 2
        room_func A = let q = shown_func h A.rep in room_first k _ (kind ∷ shape ∷ []) (written q.0) q.1 A.room

        pub asks_func : {s₁ : Target S} → Lawful k → Asks k w lo n s → s₁ ≡ emit k s (kind ∷ shape ∷ []) → (m < n) × Asks k w lo m s₁
        asks_func law A e =
            let q = shown_func h A.rep in
            (q.2, record { t = q.0; rep = q.3; room = room_second law _ (kind ∷ shape ∷ []) (written q.0) q.1 e A.room })

        pub emits_func : {s₁ s' : Target S} → s₁ ≡ emit k s (kind ∷ shape ∷ []) → Emits k w lo m s₁ s' → Emits k w lo n s s'
        emits_func e E =
            record { is = λ t r. let q = shown_func h r in emit_both k _ (kind ∷ shape ∷ []) (written q.0) q.1 e (E.is q.0 q.3) }

      -- a Phi: its first words, its operands
      module _ {a c : ℕ} (h : ReadsNode w lo n (Phi a c)) where
        pub room_phi : Asks k w lo n s → has_room k s 2
        room_phi A = let q = shown_phi h A.rep in room_first k _ (7 ∷ c ∷ []) (flat_map written q.0) q.1 A.room

        pub asks_phi : {s₁ : Target S} → Lawful k → Asks k w lo n s → s₁ ≡ emit k s (7 ∷ c ∷ []) → AsksRow k w lo n a c s₁
        asks_phi law A e =
            let q = shown_phi h A.rep in
            record { ts = q.0; many = q.2; row = q.3; room = room_second law _ (7 ∷ c ∷ []) (flat_map written q.0) q.1 e A.room }

        pub emits_phi : {s₁ s' : Target S} → s₁ ≡ emit k s (7 ∷ c ∷ []) → EmitsRow k w lo n a c s₁ s' → Emits k w lo n s s'
        emits_phi e E =
            record { is = λ t r. let q = shown_phi h r in emit_both k _ (7 ∷ c ∷ []) (flat_map written q.0) q.1 e (E.is q.0 q.2 q.3) }

-- the next of some types
next_written : (ts : List Ty) (i : ℕ) → i < length ts → flat_map written (drop i ts) ≡ written (get_or ts i poly) ++ flat_map written (drop (i + 1) ts)
unfolding flat_map
next_written ts i l = rw (add-one, drop-cons ts i poly l)

-- the loop over c nodes, i of which are put out: what is left gives what all give, and has room
pub record Listed {S : Type 0} (k : Sink S) (w : List ℕ) (lo last a c : ℕ) (s₀ s : Target S) (i : ℕ) : Type 0 where
  pub left : (ts : List Ty) → length ts ≡ c → Operands w lo (length w) last a ts → emit k s (flat_map written (drop i ts)) ≡ emit k s₀ (flat_map written ts)
  pub ts : List Ty
  pub many : length ts ≡ c
  pub row : Operands w lo (length w) last a ts
  pub room : has_room k s (length (flat_map written (drop i ts)))

module _ {S : Type 0} {k : Sink S} {w : List ℕ} {lo last a c : ℕ} {s₀ : Target S} where
  module _ {s : Target S} {i : ℕ} (L : Listed k w lo last a c s₀ s i) where
    -- the next node
    pub listed_next : i < c → (a + i < length w) × (at w (a + i) < last) × Asks k w lo (at w (a + i)) s
    listed_next l =
        let m = L.many in
        let h = L.row.each i (omega arith) in
        let e = next_written L.ts i (omega arith) in
        (h.inside, h.below, record { t = get_or L.ts i poly; rep = h.rep; room = room_first k _ (written (get_or L.ts i poly)) _ e L.room })

    pub listed_more : {s' : Target S} → Lawful k → i < c → Emits k w lo (at w (a + i)) s s' → Listed k w lo last a c s₀ s' (i + 1)
    listed_more law l E =
        record {
          left = λ ts m r.
              let t = get_or ts i poly in
              let e = next_written ts i (omega arith) in
              emit_both k _ (written t) _ e (E.is t (r.each i (omega arith)).rep) refl ∙ L.left ts m r;
          ts = L.ts;
          many = L.many;
          row = L.row;
          room =
              let m = L.many in
              let t = get_or L.ts i poly in
              let e = next_written L.ts i (omega arith) in
              room_second law _ (written t) _ e (E.is t (L.row.each i (omega arith)).rep) L.room;
        }

    pub listed_end : c ≤ i → EmitsRow k w lo last a c s₀ s
    unfolding flat_map
    listed_end l =
        record {
          is = λ ts m r.
              ap (λ (us : List Ty). emit k s (flat_map written us)) (sym (drop_of_length-le ts {i = i} (omega arith))) ∙ L.left ts m r;
        }
