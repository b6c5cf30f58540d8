-- `load_local`: an equation, and then a name that is logged. Assumes nothing.
use Rattle.std.proofs.Common.{ℕ, ◌+◌, ◌*◌, ◌≤◌, ◌<◌, arith, ◌≡◌, refl, sym, ap, ◌∙◌, List, [], ◌∷◌, length, Result, Ok, Err}
use mathlib.Core.Option.{Option}
use lib.ListN.{set, length-set}
use lib.Dec.{eqb}
use borrow.Author.Tests.{eqb-true, eqb-false, eq-eqb, ne_eqb, ltb-true}
use Rattle.image.specs.declared.refusal.Refusal.{Refusal}
use Rattle.image.specs.declared.Table.TheVariants.{Names, Identifiers}
use Rattle.image.specs.Ty.{NONE}
use Rattle.image.specs.Image.{word, count, cell, name_at, named}
use Rattle.image.specs.Kind.{LoadLocal}
use Rattle.image.specs.Check.{in_table_or_none}
use Rattle.image.specs.Program.{identifier_name}
use Rattle.image.proofs.Checked.{identifier_name as name_sound}
use Rattle.unifier_definition.specs.Unify.{Equation, ◌≐◌}
use Rattle.unifier_definition.proofs.Outcomes.{by_bool}
use Rattle.unifier_nodes.specs.Work.{at}
use Rattle.unifier_nodes.proofs.Frames.{good_same}
use Rattle.unifier_nodes.proofs.Words.{at_same, at_other}
use Rattle.run_definition.specs.Items.{item_id}
use Rattle.run_definition.specs.Equations.{NamesLog, Generated, set_name, generate_instruction_types}
use Rattle.run_definition.specs.Generate.{only}
use Rattle.run_definition.specs.Position.{instruction_at}
use Rattle.run_definition.specs.Fitting.{Passed}
use Rattle.run_reading.specs.Reading.{ItemIs}
use Rattle.run_reading.specs.declared.env.Env.{Env}
use Rattle.run_reading.specs.declared.instruction.Item.{Item}
use Rattle.run_reading.specs.declared.instruction.Instruction.{Instruction}
use Rattle.run_walk.specs.Solving.{instruction_in, item_count, lvalue_type, operand_type, WalkKeeps, Solves, EqualAsked, Equates}
use Rattle.run_walk.specs.Running.{one_logged, program_of, registry_in, Ready, Generates, GeneratesAs}
use Rattle.run_walk.specs.declared.Walk.{Walk}
use Rattle.run_definition.proofs.PositionLaws.{identifier_name_is}
use Rattle.run_definition.proofs.PositionsBody.{checked}
use Rattle.run_walk.proofs.Composing.{solves_falls, solves_counts, logged_same, logged_on, generates_of, generates_only, generates_refused, generates_same}
use Rattle.run_equations.proofs.Standing.{lvalue_stands, operand_stands, equal_asks, equal_solves}
use Rattle.run_naming.specs.Naming.{LogAsked, with_entry, LogsName}
use Rattle.run_naming.proofs.NameLogs.{entries_inside}
use Rattle.run_naming.proofs.Accessing.{item_inside, item_is, lvalue_gives, operand_gives}

-- the name of an identifier that has one is in its table
name_inside : {img bytes : List ℕ} {budget i : ℕ} → Passed img bytes budget → i < count Identifiers img → (cell Identifiers img i 1 ≡ NONE → ⊥) → cell Identifiers img i 1 < count Names img
unfolding in_table_or_none
name_inside {img} {bytes} {i = i} p l z = ltb-true _ _ (rw (ne_eqb (cell Identifiers img i 1) NONE z) at (name_sound img (length bytes) (checked p).references i l))

-- a log with an entry more, word by word
module _ (w : List ℕ) (log id n : ℕ) where
  abbrev entered : List ℕ
  entered = set (set w log id) (log + 1) n

  entered_length : length entered ≡ length w
  entered_length = length-set (set w log id) (log + 1) n ∙ length-set w log id

  entered_other : (k : ℕ) → (k ≡ log → ⊥) → (k ≡ log + 1 → ⊥) → at entered k ≡ at w k
  entered_other k x y = at_other (set w log id) (log + 1) k n y ∙ at_other w log k id x

  entered_id : log + 2 ≤ length w → at entered log ≡ id
  entered_id room = at_other (set w log id) (log + 1) log n (omega arith) ∙ at_same w log id (omega arith)

  entered_name : log + 2 ≤ length w → at entered (log + 1) ≡ n
  entered_name room = let l = length-set w log id in at_same (set w log id) (log + 1) n (omega arith)

-- an equation, and then a name that is logged for an identifier
abbrev logging : Equation → ℕ → Option (List ℕ) → NamesLog → ℕ → Generated
logging e id name ns k = record { equations = e ∷ []; names = set_name ns id name; slots = k }

-- the equation is done
module _ {env : Env} {g h : Walk} {e : Equation} (a : Ready env g) (f : Solves {A = Unit {0}} (e ∷ []) 0 g h (Ok tt)) {source : ℕ} (known : source < count Identifiers env.image.now) where
  -- its step pays for an entry of the log
  log_pays : h.unifier.left < g.unifier.left
  log_pays = omega (arith, solves_falls f a.solving)

  log_room : h.log + 2 ≤ length h.unifier.words.now
  log_room = omega (arith, log_pays, a.solving.entries, f.log_same, entries_inside a, f.keeps.len)

  -- the log lies past the nodes
  log_above : h.unifier.top ≤ h.log
  log_above = omega (arith, f.keeps.pays.spent, a.solving.room.heap, a.solving.apart, a.solving.opened, f.log_same)

  -- what `log_name` asks
  pub log_asked : LogAsked env h source
  log_asked = record { source_inside = known; room = log_room; small = omega (arith, f.keeps.len, a.solving.room.small) }

  module _ (id n : ℕ) where
    entry_other : (k : ℕ) → (k ≡ h.log → ⊥) → (k ≡ h.log + 1 → ⊥) → at (with_entry h id n).unifier.words.now k ≡ at h.unifier.words.now k
    entry_other = entered_other h.unifier.words.now h.log id n

    entry_keeps : WalkKeeps {A = Unit {0}} g (with_entry h id n) (Ok tt)
    entry_keeps =
        let k = f.keeps in
        let p = k.pays in
        let b = log_pays in
        let c = log_above in
        let j = f.log_same in
        let t = k.grows in
        record {
          same = k.same;
          len = entered_length h.unifier.words.now h.log id n ∙ k.len;
          lo = k.lo;
          stack = k.stack;
          grows = t;
          below = λ m l u. entry_other m (λ q. omega arith) (λ q. omega arith) ∙ k.below m l u;
          logged = λ m l u. entry_other m (λ q. omega arith) (λ q. omega arith) ∙ k.logged m l u;
          beyond = λ m l. entry_other m (λ q. omega arith) (λ q. omega arith) ∙ k.beyond m l;
          fewer = k.fewer;
          log_grows = omega arith;
          pays = record { spent = p.spent; made = p.made; noted = omega (arith, p.noted); counted = p.counted; names = p.names };
        }

  module _ {r : Walk} {id : ℕ} (v : LogsName env h r id source) where
    -- an identifier without a name
    load_unnamed : cell Identifiers env.image.now source 1 ≡ NONE → Generates {A = Unit {0}} (logging e id (named env.image.now env.names.now (cell Identifiers env.image.now source 1))) env g r (Ok tt)
    unfolding named set_name
    load_unnamed o =
        let k : g.next ≡ g.next + 0 = omega arith in
        rw (v.unnamed o)
        (generates_of a (Ok tt) f (λ ns. rw (eq-eqb (cell Identifiers env.image.now source 1) NONE o, named) (ap (λ (j : ℕ). record { equations = e ∷ []; names = ns; slots = j }) k)))

    -- one with a name
    load_named : (cell Identifiers env.image.now source 1 ≡ NONE → ⊥) → Generates {A = Unit {0}} (logging e id (named env.image.now env.names.now (cell Identifiers env.image.now source 1))) env g r (Ok tt)
    unfolding named set_name
    load_named o =
        let n = cell Identifiers env.image.now source 1 in
        let w = h.unifier.words.now in
        let c = log_above in
        let j = f.log_same in
        let inside = name_inside a.passed known o in
        let number = entered_name w h.log id n log_room in
        rw (v.named o)
        (record {
          keeps = entry_keeps id n;
          means = λ σ ns good logged.
              let (τ, is, then) = f.means (registry_in env) σ good in
              rw (ne_eqb n NONE o, named)
              (record {
                log = τ;
                is = is;
                good = good_same (entered w h.log id n) h.unifier.top (omega arith) (λ m l u. entry_other id n m (λ q. omega arith) (λ q. omega arith)) then;
                logged =
                    one_logged {k = h.log} refl (omega arith) (entered_id w h.log id n log_room) (omega arith) (ap (name_at env.image.now env.names.now) number)
                    (logged_same (λ m l u. entry_other id n m (λ q. omega arith) (λ q. omega arith)) (logged_on a f.keeps logged j));
                slots = omega (arith, f.solved.next);
                counts = solves_counts f (registry_in env) σ g.unifier.left;
              });
        })

    load_logged : Generates {A = Unit {0}} (logging e id (named env.image.now env.names.now (cell Identifiers env.image.now source 1))) env g r (Ok tt)
    load_logged = by_bool (eqb (cell Identifiers env.image.now source 1) NONE) (λ t. load_unnamed (eqb-true _ NONE t)) (λ t. load_named (eqb-false _ NONE t))

-- a LoadLocal
module _ (on : Instruction) {g : Walk} (a : Ready on.env.now g) (many : 1 ≤ item_count on) {x y : ℕ} (d : x ≡ cell Identifiers on.env.now.image.now (word on.env.now.image.now (on.at + 1)) 0)
    (e : y ≡ cell Identifiers on.env.now.image.now (word on.env.now.image.now (on.at + 5 + 3 * 0)) 0) where
  -- what `equal` asks
  pub local_asked : EqualAsked g x y
  local_asked = equal_asks a.solving (lvalue_stands on d) (operand_stands on 0 many e)

  local_solves : {r : Walk} {o : Result (Unit {0}) Refusal} → Equates g x y r o → Solves (lvalue_type on ≐ operand_type on 0 ∷ []) 0 g r o
  local_solves f = equal_solves a.solving (lvalue_stands on d) (operand_stands on 0 many e) f

  -- what it gives
  loads : (ns : NamesLog) (k : ℕ)
      → logging (lvalue_type on ≐ operand_type on 0) (word on.env.now.image.now (on.at + 1)) (identifier_name (program_of on.env.now) (item_id (instruction_in on) 0)) ns k
      ≡ generate_instruction_types (program_of on.env.now) ns k (instruction_in on) LoadLocal
  unfolding generate_instruction_types instruction_at
  loads ns k = let l = lvalue_gives on in let r = operand_gives on 0 many in cc

  -- the name of what it loads
  name_is : {item : Item} → ItemIs on.env.now.image.now (on.at + 4 + 3 * 0) item
      → identifier_name (program_of on.env.now) (item_id (instruction_in on) 0) ≡ named on.env.now.image.now on.env.now.names.now (cell Identifiers on.env.now.image.now item.id.0 1)
  name_is i =
      ap (identifier_name (program_of on.env.now)) (sym (item_is on {k = 0} many i))
      ∙ identifier_name_is on.env.now.image.now on.env.now.names.now _ (item_inside on {k = 0} many i)

  -- its equation is refused
  pub local_refused : {h : Walk} {why : Refusal} → Equates g x y h (Err why) → GeneratesAs LoadLocal on g h (Err why)
  unfolding only
  local_refused {why = why} f =
      generates_refused (λ ns. ap (λ (v : Generated). v.equations) (sym (loads ns g.next)))
      (generates_only a (Err why) (local_solves f))

  -- its equation is done
  module _ {h : Walk} (f : Equates g x y h (Ok tt)) {item : Item} (i : ItemIs on.env.now.image.now (on.at + 4 + 3 * 0) item) where
    -- what `log_name` asks
    pub name_asked : LogAsked on.env.now h item.id.0
    name_asked = log_asked a (local_solves f) (item_inside on {k = 0} many i)

    -- the name is logged
    pub local_gives : {r : Walk} {id : ℕ} → id ≡ word on.env.now.image.now (on.at + 1) → LogsName on.env.now h r id item.id.0 → GeneratesAs LoadLocal on g r (Ok tt)
    local_gives q v =
        generates_same (Ok tt) (λ ns. rw (q, ← name_is i) (loads ns g.next)) (load_logged a (local_solves f) (item_inside on {k = 0} many i) v)
