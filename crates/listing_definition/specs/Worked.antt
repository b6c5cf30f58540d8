-- Worked listings and what each gives, proved by computing. Assumes nothing.
use Rattle.std.specs.Prelude.{ℕ, ◌+◌, ◌*◌, ◌≡◌, refl, false, List, [], ◌∷◌, map, length}
use Rattle.std.proofs.Math.Option.{none}
use Rattle.image.specs.Ty.{NONE, var, prim, object, func}
use Rattle.unifier_definition.specs.Log.{Binding}
use Rattle.unifier_definition.specs.Counts.{no_lookups}
use Rattle.run_definition.specs.Infer.{Output, refusal}
use Rattle.run_definition.specs.More.{WithMore, with_more, refused_more}
use Rattle.run_definition.specs.Compute.{compute}
use Rattle.run_definition.specs.Sketch.{load_local, primitive, call, phi_node, block, Sketch, plain, image_of, bytes_of, done_in, ◌≔◌, phi_of, sketch_compute}
use Rattle.listing_definition.specs.Listing.{listing_of, listing, listing_compute}

-- an image, what it is run with, the chosen slot and the lent listing words, and what is given
pub record Call : Type 0 where
  pub image : Sketch
  pub budget : ℕ
  pub table_length : ℕ
  pub slot : ℕ
  pub listing_length : ℕ
  pub gives : WithMore

-- what the definition gives, with work words enough
run : Call → WithMore
run c =
    let img = image_of c.image in
    listing img (bytes_of c.image) c.budget (8 * (length img + c.budget)) c.table_length c.slot c.listing_length

-- row C of document 01: "x1 bound to phi(x0, x2), x2 to phi(x0)"
image_c : Sketch
image_c = plain 4 [] 3 (block (phi_node 1 (0 ∷ 2 ∷ []) ∷ []) (load_local 2 1 ∷ []) none ∷ [])

output_c : Output
output_c =
    done_in 33 (var 0 ∷ phi_of (var 0 ∷ phi_of (var 0 ∷ []) ∷ []) ∷ phi_of (var 0 ∷ []) ∷ var 3 ∷ []) (1 ≔ phi_of (var 0 ∷ var 2 ∷ []) ∷ 2 ≔ phi_of (var 0 ∷ []) ∷ [])

-- a listing of it
of_c : (table_length slot listing_length : ℕ) → WithMore → Call
of_c table_length slot listing_length m = record { image = image_c; budget = 1024; table_length = table_length; slot = slot; listing_length = listing_length; gives = m }

-- slot 1 loads slot 0, and slot 0 is a Primitive
image_chain : Sketch
image_chain = plain 3 [] 2 (block [] (load_local 1 0 ∷ primitive 0 ∷ []) none ∷ [])

-- slot 1 is what slot 0 returns, a Primitive; the call makes slot 3
image_call : Sketch
image_call = plain 3 [] 2 (block [] (call 1 0 ∷ primitive 1 ∷ []) none ∷ [])

of_call : (slot : ℕ) → WithMore → Call
of_call slot m = record { image = image_call; budget = 1024; table_length = 4096; slot = slot; listing_length = 7; gives = m }

output_call : Output
output_call = done_in 21 (func false NONE prim ∷ prim ∷ var 2 ∷ var 3 ∷ []) (0 ≔ func false NONE (var 3) ∷ 1 ≔ var 3 ∷ 3 ≔ prim ∷ [])

calls : List Call
calls =
    -- "write its own variable and those followed from it, one row each of slot and binding as in the tables": slots 1, 0 and 2, as many
    -- words as are lent. "The answer gains the listing's words"
    of_c 28 1 14 (record {
      answer = record { number = 0; steps = 33; slots = 4; bindings = 2; table_words = 28; counts = no_lookups };
      more_words = 14;
      tables = output_c.tables;
      more = 1 ∷ 7 ∷ 2 ∷ 0 ∷ 0 ∷ 0 ∷ 2 ∷ 0 ∷ NONE ∷ 2 ∷ 7 ∷ 1 ∷ 0 ∷ 0 ∷ [];
    })
    -- "NONE for an unbound one"; the last slot of the tables
    ∷ of_c 28 0 2 (with_more output_c (0 ∷ NONE ∷ []))
    ∷ of_c 28 3 2 (with_more output_c (3 ∷ NONE ∷ []))
    -- "as 18, a listing longer than its lent words", "in 18 those wanted"
    ∷ of_c 28 1 13 (refused_more 18 33 14)
    -- "as 17, a slot outside the tables"; "17 and then 18", where no listing word is lent
    ∷ of_c 28 4 4096 (refused_more 17 33 0)
    ∷ of_c 28 4 0 (refused_more 17 33 0)
    ∷ of_c 28 3 0 (refused_more 18 33 2)
    -- "tested after 14"
    ∷ of_c 27 4 0 (with_more (refusal 14 33 28) [])
    -- "The request runs the image first, and a refused run gives its own number": 12, 13, and 3 of the check
    ∷ record { image = plain 2 [] 1 (block [] (call 0 0 ∷ []) none ∷ []); budget = 1024; table_length = 0; slot = 9; listing_length = 0; gives = with_more (refusal 12 14 0) [] }
    ∷ record { image = image_c; budget = 32; table_length = 0; slot = 9; listing_length = 0; gives = with_more (refusal 13 32 0) [] }
    ∷ record { image = image_c; budget = 65537; table_length = 0; slot = 9; listing_length = 0; gives = with_more (refusal 3 0 0) [] }
    -- "until a type that isn't a variable .. is reached"
    ∷ record {
      image = image_chain;
      budget = 1024;
      table_length = 4096;
      slot = 1;
      listing_length = 5;
      gives = with_more (done_in 13 (prim ∷ prim ∷ var 2 ∷ []) (0 ≔ prim ∷ 1 ≔ var 0 ∷ [])) (1 ∷ 0 ∷ 0 ∷ 0 ∷ 1 ∷ []);
    }
    -- a slot that the run made, under the one that leads to it and by itself; the one after it is outside
    ∷ of_call 0 (with_more output_call (0 ∷ 5 ∷ NONE ∷ 0 ∷ 3 ∷ 3 ∷ 1 ∷ []))
    ∷ of_call 3 (with_more output_call (3 ∷ 1 ∷ []))
    ∷ of_call 4 (refused_more 17 21 0)
    ∷ []

-- the definition gives every call its answer
calls_hold : map run calls ≡ map (λ c. c.gives) calls
unfolding compute sketch_compute listing_compute run image_c output_c of_c image_chain image_call of_call output_call calls
calls_hold = refl

-- bindings, a slot, and the words of its listing
pub record Chosen : Type 0 where
  pub bindings : List Binding
  pub slot : ℕ
  pub words : List ℕ

chosen : List Chosen
chosen =
    -- "those followed from it .. until a type that isn't a variable or an unbound variable is reached"
    record { bindings = 1 ≔ var 4 ∷ 3 ≔ prim ∷ 4 ≔ var 3 ∷ []; slot = 1; words = 1 ∷ 0 ∷ 4 ∷ 4 ∷ 0 ∷ 3 ∷ 3 ∷ 1 ∷ [] }
    ∷ record { bindings = 1 ≔ var 4 ∷ 4 ≔ var 3 ∷ []; slot = 1; words = 1 ∷ 0 ∷ 4 ∷ 4 ∷ 0 ∷ 3 ∷ 3 ∷ NONE ∷ [] }
    -- "Then do the same for each variable inside, left to right": 0, 2, 1
    ∷ record { bindings = 0 ≔ phi_of (var 2 ∷ var 1 ∷ []) ∷ []; slot = 0; words = 0 ∷ 7 ∷ 2 ∷ 0 ∷ 2 ∷ 0 ∷ 1 ∷ 2 ∷ NONE ∷ 1 ∷ NONE ∷ [] }
    -- in a Function's return and in a Phi's Phi: 0, 2, 1, 3
    ∷ record {
      bindings = 0 ≔ func false 5 (phi_of (phi_of (var 2 ∷ []) ∷ var 1 ∷ object 4 ∷ var 3 ∷ [])) ∷ [];
      slot = 0;
      words = 0 ∷ 5 ∷ 5 ∷ 7 ∷ 4 ∷ 7 ∷ 1 ∷ 0 ∷ 2 ∷ 0 ∷ 1 ∷ 4 ∷ 4 ∷ 0 ∷ 3 ∷ 2 ∷ NONE ∷ 1 ∷ NONE ∷ 3 ∷ NONE ∷ [];
    }
    -- "each to its end": 0, 1, 3, 4, 2
    ∷ record {
      bindings = 0 ≔ phi_of (var 1 ∷ var 2 ∷ []) ∷ 1 ≔ phi_of (var 3 ∷ []) ∷ 3 ≔ var 4 ∷ [];
      slot = 0;
      words = 0 ∷ 7 ∷ 2 ∷ 0 ∷ 1 ∷ 0 ∷ 2 ∷ 1 ∷ 7 ∷ 1 ∷ 0 ∷ 3 ∷ 3 ∷ 0 ∷ 4 ∷ 4 ∷ NONE ∷ 2 ∷ NONE ∷ [];
    }
    -- "a variable already listed not being listed again": both operands are 3, which is listed after the first; 0, 1, 3, 2
    ∷ record {
      bindings = 0 ≔ phi_of (var 1 ∷ var 2 ∷ []) ∷ 1 ≔ var 3 ∷ 2 ≔ var 3 ∷ 3 ≔ prim ∷ [];
      slot = 0;
      words = 0 ∷ 7 ∷ 2 ∷ 0 ∷ 1 ∷ 0 ∷ 2 ∷ 1 ∷ 0 ∷ 3 ∷ 3 ∷ 1 ∷ 2 ∷ 0 ∷ 3 ∷ [];
    }
    -- the second operand, 2, is inside the first: 0, 1, 2, 3
    ∷ record {
      bindings = 0 ≔ phi_of (var 1 ∷ var 2 ∷ []) ∷ 1 ≔ phi_of (var 2 ∷ var 3 ∷ []) ∷ [];
      slot = 0;
      words = 0 ∷ 7 ∷ 2 ∷ 0 ∷ 1 ∷ 0 ∷ 2 ∷ 1 ∷ 7 ∷ 2 ∷ 0 ∷ 2 ∷ 0 ∷ 3 ∷ 2 ∷ NONE ∷ 3 ∷ NONE ∷ [];
    }
    -- twice in one binding
    ∷ record { bindings = 0 ≔ phi_of (var 1 ∷ var 1 ∷ []) ∷ []; slot = 0; words = 0 ∷ 7 ∷ 2 ∷ 0 ∷ 1 ∷ 0 ∷ 1 ∷ 1 ∷ NONE ∷ [] }
    -- "no other variable has one": 0 alone
    ∷ record { bindings = 0 ≔ object 4 ∷ 1 ≔ var 0 ∷ []; slot = 0; words = 0 ∷ 4 ∷ 4 ∷ [] }
    ∷ []

-- the definition lists every slot so
chosen_hold : map (λ c. listing_of c.bindings c.slot) chosen ≡ map (λ c. c.words) chosen
unfolding compute listing_compute chosen
chosen_hold = refl
