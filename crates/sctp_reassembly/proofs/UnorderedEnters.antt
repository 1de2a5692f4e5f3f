-- A piece of an unordered message is put among the runs of those that wait.
use Rattle.std.proofs.Common.{ℕ, suc, ◌-◌, ◌^◌, ◌<◌, ◌≡◌, ◌⊎◌, Bool, true, false, cond, not, eqb, ◌&&◌, List, [], ◌∷◌}
use Rattle.std.proofs.Common.{◌++◌, length, position, insert, slice_get, slice_set, unwrap_or, Option, Some, None, refl}
use Rattle.std.proofs.Common.{sym, ap, ◌∙◌, subst, inl, inr, ⊎_elim, arith, append_assoc}
use Rattle.std.specs.List.{AllByRecursion, remove}
use Rattle.std.proofs.lemmas.Bool.{cases_Bool, ne_eqb, cond-false, lt-ltb, le-ltb, false≢true}
use Rattle.sctp_wire_types.specs.declared.chunk.ChunkPayloadData.{ChunkPayloadData}
use Rattle.sctp_serial.specs.Serial.{tsn_lt, tsn, tsn_after}
use Rattle.sctp_receive_queues.specs.Messages.{ReceivedMessage, message_of}
use Rattle.sctp_receive_queues.specs.Pieces.{is_complete, is_past, is_last as is_last_piece}
use Rattle.sctp_receive_queues.specs.Reassembly.{finished, joins_after, joins_before, part, index_for_tsn, put_between}
use Rattle.sctp_receive_queues.specs.Reassembly.{run_at, run_before, run_index, with_unordered}
use Rattle.sctp_model.specs.Messages.{Plan}
use Rattle.sctp_model.specs.Packets.{data_at}
use Rattle.sctp_model.proofs.Lists.{all_back, all_front}
use Rattle.sctp_reassembly.specs.Stands.{AreRuns, CarryDataOf, CarriesData, leads, led}
use Rattle.sctp_reassembly.proofs.PiecePlace.{unwrap_up}
use Rattle.sctp_reassembly.proofs.IndexRecursion.{position_here, position_later}
use Rattle.sctp_reassembly.proofs.OffsetRuns.{last_leads, join_runs, join_last, join_run}
use Rattle.sctp_reassembly.proofs.TsnOrder.{tsns_go_as_offsets, tsn_next}
use Rattle.sctp_reassembly.proofs.WholeMessages.{last_later}

-- Where two lists meet.

insert_seam : {X : Type 0} (xs ys : List X) (y : X) → insert (xs ++ ys) (length xs) y ≡ xs ++ y ∷ ys
insert_seam [] ys y = refl
insert_seam (x ∷ xs) ys y = ap (λ z. x ∷ z) (insert_seam xs ys y)

remove_seam : {X : Type 0} (xs ys : List X) (y : X) → remove (xs ++ y ∷ ys) (length xs) ≡ xs ++ ys
remove_seam [] ys y = refl
remove_seam (x ∷ xs) ys y = ap (λ z. x ∷ z) (remove_seam xs ys y)

get_seam : {X : Type 0} (xs ys : List X) → slice_get (xs ++ ys) (length xs) ≡ slice_get ys 0
get_seam [] ys = refl
get_seam (x ∷ xs) ys = get_seam xs ys

set_seam : {X : Type 0} (xs ys : List X) (y z : X) → slice_set (xs ++ y ∷ ys) (length xs) z ≡ xs ++ z ∷ ys
set_seam [] ys y z = refl
set_seam (x ∷ xs) ys y z = ap (λ t. x ∷ t) (set_seam xs ys y z)

length_last : {X : Type 0} (xs : List X) (x : X) → length (xs ++ x ∷ []) ≡ suc (length xs)
length_last [] x = refl
length_last (y ∷ ys) x = ap suc (length_last ys x)

one_less : {X : Type 0} (xs : List X) (x : X) → length (xs ++ x ∷ []) - 1 ≡ length xs
one_less xs x = let e = length_last xs x in omega arith

-- The runs in front of the place and behind it.

abbrev pub head_run : List (List ChunkPayloadData) → List ChunkPayloadData
head_run [] = []
head_run (r ∷ rs) = r

pub run_behind : (xs ys : List (List ChunkPayloadData)) → run_at (xs ++ ys) (length xs) ≡ head_run ys
run_behind xs [] = ap (λ z. unwrap_or z []) (get_seam xs [])
run_behind xs (y ∷ ys) = ap (λ z. unwrap_or z []) (get_seam xs (y ∷ ys))

pub run_in_front : (zs ys : List (List ChunkPayloadData)) (z : List ChunkPayloadData)
    → run_before ((zs ++ z ∷ []) ++ ys) (length (zs ++ z ∷ [])) ≡ z
run_in_front zs ys z =
    cond-false (eqb (length (zs ++ z ∷ [])) 0) []
    (unwrap_or (slice_get ((zs ++ z ∷ []) ++ ys) (length (zs ++ z ∷ []) - 1)) [])
    (ne_eqb (length (zs ++ z ∷ [])) 0 (λ (e : length (zs ++ z ∷ []) ≡ 0). let l = length_last zs z in omega arith))
    ∙ ap (λ k. unwrap_or (slice_get ((zs ++ z ∷ []) ++ ys) k) []) (one_less zs z)
    ∙ ap (λ k. unwrap_or (slice_get k (length zs)) []) (append_assoc zs (z ∷ []) ys)
    ∙ ap (λ k. unwrap_or k []) (get_seam zs (z ∷ ys))

pub none_in_front : (ys : List (List ChunkPayloadData)) → run_before ys 0 ≡ []
none_in_front ys = refl

-- all offsets are small, so that TSNs compare as they do
abbrev pub AreSmall : List ℕ → Type 0
AreSmall os = AllByRecursion (λ (x : ℕ). x < 2 ^ 31) os

-- Runs of chunks beside runs of offsets.

pub runs_split : (initial : ℕ) (p : Plan) (cs : List (List ChunkPayloadData)) (gs hs : List (List ℕ))
    → AreRuns initial p cs (gs ++ hs)
    → (xs : List (List ChunkPayloadData)) × (ys : List (List ChunkPayloadData)) × (cs ≡ xs ++ ys)
    × AreRuns initial p xs gs × AreRuns initial p ys hs
runs_split initial p cs [] hs a = ([], cs, refl, tt, a)
runs_split initial p [] (g ∷ gs) hs a = absurd a
runs_split initial p (c ∷ cs) (g ∷ gs) hs a =
    let t = runs_split initial p cs gs hs a.1 in
    (c ∷ t.0, t.1, ap (λ z. c ∷ z) t.2, (a.0, t.3), t.4)

pub runs_join : (initial : ℕ) (p : Plan) (xs ys : List (List ChunkPayloadData)) (gs hs : List (List ℕ))
    → AreRuns initial p xs gs → AreRuns initial p ys hs
    → AreRuns initial p (xs ++ ys) (gs ++ hs)
runs_join initial p [] ys [] hs a b = b
runs_join initial p [] ys (g ∷ gs) hs a b = absurd a
runs_join initial p (x ∷ xs) ys [] hs a b = absurd a
runs_join initial p (x ∷ xs) ys (g ∷ gs) hs a b = (a.0, runs_join initial p xs ys gs hs a.1 b)

said_join : (initial : ℕ) (p : Plan) (xs ys : List ChunkPayloadData) (os qs : List ℕ) → CarryDataOf initial p xs os
    → CarryDataOf initial p ys qs
    → CarryDataOf initial p (xs ++ ys) (os ++ qs)
said_join initial p [] ys [] qs a b = b
said_join initial p [] ys (o ∷ os) qs a b = absurd a
said_join initial p (x ∷ xs) ys [] qs a b = absurd a
said_join initial p (x ∷ xs) ys (o ∷ os) qs a b = (a.0, said_join initial p xs ys os qs a.1 b)

-- a last run, if there are any
pub record HasLast (initial : ℕ) (p : Plan) (cs : List (List ChunkPayloadData)) (gs : List (List ℕ)) : Type 0 where
  pub chunks : List (List ChunkPayloadData)
  pub run : List ChunkPayloadData
  pub offsets : List (List ℕ)
  pub last : List ℕ
  pub are_chunks : cs ≡ chunks ++ run ∷ []
  pub are_offsets : gs ≡ offsets ++ last ∷ []
  pub before : AreRuns initial p chunks offsets
  pub said : CarryDataOf initial p run last

pub last_cases : (initial : ℕ) (p : Plan) (cs : List (List ChunkPayloadData)) (gs : List (List ℕ))
    → AreRuns initial p cs gs
    → ((cs ≡ []) × (gs ≡ [])) ⊎ HasLast initial p cs gs
last_cases initial p [] [] a = inl (refl, refl)
last_cases initial p [] (g ∷ gs) a = absurd a
last_cases initial p (c ∷ cs) [] a = absurd a
last_cases initial p (c ∷ cs) (g ∷ gs) a =
    ⊎_elim
    (λ (n : (cs ≡ []) × (gs ≡ [])). inr (record {
      chunks = [];
      run = c;
      offsets = [];
      last = g;
      are_chunks = ap (λ z. c ∷ z) n.0;
      are_offsets = ap (λ z. g ∷ z) n.1;
      before = tt;
      said = a.0;
    }))
    (λ (t : HasLast initial p cs gs). inr (record {
      chunks = c ∷ t.chunks;
      run = t.run;
      offsets = g ∷ t.offsets;
      last = t.last;
      are_chunks = ap (λ z. c ∷ z) t.are_chunks;
      are_offsets = ap (λ z. g ∷ z) t.are_offsets;
      before = (a.0, t.before);
      said = t.said;
    }))
    (last_cases initial p cs gs a.1)

-- The place is behind all runs that begin before the piece.

abbrev pub AreNotPast : ℕ → List (List ChunkPayloadData) → Type 0
AreNotPast t cs = AllByRecursion (λ (r : List ChunkPayloadData). is_past r t ≡ false) cs

pub place_between : (t : ℕ) (xs ys : List (List ChunkPayloadData)) → AreNotPast t xs
    → AllByRecursion (λ (r : List ChunkPayloadData). is_past r t ≡ true) ys
    → index_for_tsn t (xs ++ ys) ≡ length xs
place_between t [] [] a b = refl
place_between t [] (y ∷ ys) a b =
    ap (λ z. unwrap_or z (suc (length ys))) (position_here (λ (r : List ChunkPayloadData). is_past r t) y ys b.0)
place_between t (x ∷ xs) ys a b =
    ap (λ z. unwrap_or z (suc (length (xs ++ ys))))
    (position_later (λ (r : List ChunkPayloadData). is_past r t) x (xs ++ ys) a.0)
    ∙ unwrap_up (position (λ (r : List ChunkPayloadData). is_past r t) (xs ++ ys)) (length (xs ++ ys))
    ∙ ap suc (place_between t xs ys a.1 b)

abbrev pub IsIncomplete : List ChunkPayloadData → Type 0
IsIncomplete r = is_complete r ≡ false

-- the piece with the runs behind it
record IsLed (initial : ℕ) (p : Plan) (c : ChunkPayloadData) (o : ℕ) (ys : List (List ChunkPayloadData))
    (hs : List (List ℕ)) : Type 0 where
  pub more : List ChunkPayloadData
  pub back : List (List ChunkPayloadData)
  pub rest : List ℕ
  pub later : List (List ℕ)
  pub part_is : part (joins_after (head_run ys) c) (head_run ys) ≡ more
  pub said : CarryDataOf initial p more rest
  pub backs : AreRuns initial p back later
  pub is : led p o hs ≡ (o ∷ rest) ∷ later
  pub alone : (front : List (List ChunkPayloadData)) (run : List ChunkPayloadData)
      → put_between false (joins_after (head_run ys) c) (front ++ ys) (length front) run ≡ front ++ run ∷ back
  pub joined : (front : List (List ChunkPayloadData)) (z run : List ChunkPayloadData)
      → put_between true (joins_after (head_run ys) c) ((front ++ z ∷ []) ++ ys) (length (front ++ z ∷ [])) run
      ≡ front ++ run ∷ back
  pub only : AllByRecursion IsIncomplete ys → AllByRecursion IsIncomplete back

set_last : (front ys : List (List ChunkPayloadData)) (z run : List ChunkPayloadData)
    → slice_set ((front ++ z ∷ []) ++ ys) (length (front ++ z ∷ []) - 1) run ≡ front ++ run ∷ ys
set_last front ys z run =
    ap (λ k. slice_set ((front ++ z ∷ []) ++ ys) k run) (one_less front z)
    ∙ ap (λ k. slice_set k (length front) run) (append_assoc front (z ∷ []) ys) ∙ set_seam front ys z run

set_two : (front ys : List (List ChunkPayloadData)) (z y run : List ChunkPayloadData)
    → remove (slice_set ((front ++ z ∷ []) ++ y ∷ ys) (length (front ++ z ∷ []) - 1) run) (length (front ++ z ∷ []))
    ≡ front ++ run ∷ ys
set_two front ys z y run =
    ap (λ k. remove k (length (front ++ z ∷ [])))
    (set_last front (y ∷ ys) z run ∙ sym (append_assoc front (run ∷ []) (y ∷ ys)))
    ∙ ap (remove ((front ++ run ∷ []) ++ y ∷ ys)) (length_last front z ∙ sym (length_last front run))
    ∙ remove_seam (front ++ run ∷ []) ys y ∙ append_assoc front (run ∷ []) ys

-- the runs with the piece
pub record IsEntered (initial : ℕ) (p : Plan) (c : ChunkPayloadData) (chunks : List (List ChunkPayloadData)) (index : ℕ)
    (all : List (List ℕ)) : Type 0 where
  pub front : List (List ChunkPayloadData)
  pub run : List ChunkPayloadData
  pub back : List (List ChunkPayloadData)
  pub earlier : List (List ℕ)
  pub first : ℕ
  pub rest : List ℕ
  pub later : List (List ℕ)
  pub put : with_unordered chunks index c ≡ (front ++ run ∷ back, length front)
  pub is : all ≡ earlier ++ (first ∷ rest) ∷ later
  pub fronts : AreRuns initial p front earlier
  pub said : CarryDataOf initial p run (first ∷ rest)
  pub backs : AreRuns initial p back later
  pub only : AllByRecursion IsIncomplete chunks → AllByRecursion IsIncomplete front × AllByRecursion IsIncomplete back

-- put beside a run in front
put_after : (before after : List ChunkPayloadData) (chunks : List (List ChunkPayloadData)) (index : ℕ)
    (c : ChunkPayloadData) (b : Bool) → run_before chunks index ≡ before
    → run_at chunks index ≡ after → joins_before before c ≡ b
    → with_unordered chunks index c
    ≡ (
      put_between b (joins_after after c) chunks index (part b before ++ c ∷ part (joins_after after c) after),
      run_index b index,
    )
put_after before after chunks index c b e f g = rw (e, f, g) refl

module _ {initial : ℕ} {c : ChunkPayloadData} (p : Plan) (o : ℕ) (i : CarriesData initial c (data_at p o))
    (l : o < 2 ^ 31) where
  -- the piece goes on with the run in front where that leads to it
  pub joins_front : (os : List ℕ) (cs : List ChunkPayloadData) (z : List ℕ) → CarryDataOf initial p cs z → AreSmall z
      → joins_before cs c ≡ last_leads p z (o ∷ os)
  joins_front os [] [] a s = refl
  joins_front os [] (x ∷ xs) a s = absurd a
  joins_front os (d ∷ ds) [] a s = absurd a
  joins_front os (d ∷ []) (x ∷ []) a s =
      let first : eqb c.tsn (tsn_after d.tsn) ≡ eqb o (suc x)
      =
      ap (λ z. eqb z (tsn_after d.tsn)) i.tsn ∙ ap (λ z. eqb (tsn initial o) (tsn_after z)) a.0.tsn
      ∙ tsn_next initial x o s.0 l in
      ap (λ z. z && not d.ending_fragment) first ∙ ap (λ z. eqb o (suc x) && not z) a.0.last
  joins_front os (d ∷ []) (x ∷ y ∷ ys) a s = absurd a.1
  joins_front os (d ∷ e ∷ es) (x ∷ []) a s = absurd a.1
  joins_front os (d ∷ e ∷ es) (x ∷ y ∷ ys) a s =
      ap (λ z. joined_by z) (last_later d e es) ∙ joins_front os (e ∷ es) (y ∷ ys) a.1 s.1
    where
      joined_by : Option ChunkPayloadData → Bool
      joined_by z = is_before z && not (is_last_piece z)
        where
          is_before : Option ChunkPayloadData → Bool
          is_before None = false
          is_before (Some q) = eqb c.tsn (tsn_after q.tsn)

  -- and the run behind with it, where it leads to that
  joins_back : (cs : List ChunkPayloadData) (y : List ℕ) → CarryDataOf initial p cs y → AreSmall y
      → joins_after cs c ≡ leads p o y
  joins_back [] [] a s = refl
  joins_back [] (x ∷ xs) a s = absurd a
  joins_back (d ∷ ds) [] a s = absurd a
  joins_back (d ∷ ds) (x ∷ xs) a s =
      let first : eqb d.tsn (tsn_after c.tsn) ≡ eqb x (suc o)
      =
      ap (λ z. eqb z (tsn_after c.tsn)) a.0.tsn ∙ ap (λ z. eqb (tsn initial x) (tsn_after z)) i.tsn
      ∙ tsn_next initial o x l s.0 in
      ap (λ z. z && not c.ending_fragment) first ∙ ap (λ z. eqb x (suc o) && not z) i.last

  pub not_past : (cs : List (List ChunkPayloadData)) (gs : List (List ℕ)) → AreRuns initial p cs gs
      → AllByRecursion (AllByRecursion (λ (x : ℕ). x < o)) gs → AreNotPast c.tsn cs
  not_past [] [] a b = tt
  not_past [] (g ∷ gs) a b = absurd a
  not_past (r ∷ rs) [] a b = absurd a
  not_past (r ∷ rs) (g ∷ gs) a b = (one r g a.0 b.0, not_past rs gs a.1 b.1)
    where
      one : (r : List ChunkPayloadData) (g : List ℕ) → CarryDataOf initial p r g → AllByRecursion (λ (x : ℕ). x < o) g
          → is_past r c.tsn ≡ false
      one [] g a b = refl
      one (d ∷ ds) [] a b = absurd a
      one (d ∷ ds) (x ∷ xs) a b =
          let less = b.0 in
          ap (λ z. tsn_lt z d.tsn) i.tsn ∙ ap (tsn_lt (tsn initial o)) a.0.tsn
          ∙ tsns_go_as_offsets initial o x l (omega arith)
          ∙ le-ltb o x (omega arith)

  pub all_past : (cs : List (List ChunkPayloadData)) (gs : List (List ℕ)) → AreRuns initial p cs gs
      → AllByRecursion (λ (g : List ℕ). 0 < length g) gs → AllByRecursion (AllByRecursion (λ (x : ℕ). o < x)) gs
      → AllByRecursion AreSmall gs → AllByRecursion (λ (r : List ChunkPayloadData). is_past r c.tsn ≡ true) cs
  all_past [] [] a n b s = tt
  all_past [] (g ∷ gs) a n b s = absurd a
  all_past (r ∷ rs) [] a n b s = absurd a
  all_past (r ∷ rs) (g ∷ gs) a n b s =
      (one r g a.0 n.0 b.0 s.0, all_past rs gs a.1 n.1 b.1 s.1)
    where
      one : (r : List ChunkPayloadData) (g : List ℕ) → CarryDataOf initial p r g → 0 < length g
          → AllByRecursion (λ (x : ℕ). o < x) g → AreSmall g → is_past r c.tsn ≡ true
      one r [] a n b s = absurd (omega arith)
      one [] (x ∷ xs) a n b s = absurd a
      one (d ∷ ds) (x ∷ xs) a n b s =
          ap (λ z. tsn_lt z d.tsn) i.tsn ∙ ap (tsn_lt (tsn initial o)) a.0.tsn ∙ tsns_go_as_offsets initial o x l s.0
          ∙ lt-ltb o x b.0

  led_so : (ys : List (List ChunkPayloadData)) (hs : List (List ℕ)) → AreRuns initial p ys hs
      → AllByRecursion AreSmall hs
      → IsLed initial p c o ys hs
  led_so [] [] a s = record {
    more = [];
    back = [];
    rest = [];
    later = [];
    part_is = refl;
    said = tt;
    backs = tt;
    is = refl;
    alone = λ front run. insert_seam front [] run;
    joined = λ front z run. set_last front [] z run;
    only = λ u. tt;
  }
  led_so [] (h ∷ hs) a s = absurd a
  led_so (y ∷ ys) [] a s = absurd a
  led_so (y ∷ ys) (h ∷ hs) a s =
      let test = joins_back y h a.0 s.0 in
      ⊎_elim
      (λ (b : leads p o h ≡ true). record {
        more = y;
        back = ys;
        rest = h;
        later = hs;
        part_is = ap (λ k. part k y) (test ∙ b);
        said = a.0;
        backs = a.1;
        is = ap (λ k. cond k ((o ∷ h) ∷ hs) ((o ∷ []) ∷ h ∷ hs)) b;
        alone =
            λ front run. ap (λ k. put_between false k (front ++ y ∷ ys) (length front) run) (test ∙ b)
            ∙ set_seam front ys y run;
        joined =
            λ front z run. ap (λ k. put_between true k ((front ++ z ∷ []) ++ y ∷ ys) (length (front ++ z ∷ [])) run)
            (test ∙ b) ∙ set_two front ys z y run;
        only = λ u. u.1;
      })
      (λ (b : leads p o h ≡ false). record {
        more = [];
        back = y ∷ ys;
        rest = [];
        later = h ∷ hs;
        part_is = ap (λ k. part k y) (test ∙ b);
        said = tt;
        backs = a;
        is = ap (λ k. cond k ((o ∷ h) ∷ hs) ((o ∷ []) ∷ h ∷ hs)) b;
        alone =
            λ front run. ap (λ k. put_between false k (front ++ y ∷ ys) (length front) run) (test ∙ b)
            ∙ insert_seam front (y ∷ ys) run;
        joined =
            λ front z run. ap (λ k. put_between true k ((front ++ z ∷ []) ++ y ∷ ys) (length (front ++ z ∷ [])) run)
            (test ∙ b) ∙ set_last front (y ∷ ys) z run;
        only = λ u. u;
      })
      (cases_Bool (leads p o h))

  pub entered : (xs ys : List (List ChunkPayloadData)) (gs hs : List (List ℕ)) → AreRuns initial p xs gs
      → AreRuns initial p ys hs → AllByRecursion AreSmall gs → AllByRecursion AreSmall hs
      → IsEntered initial p c (xs ++ ys) (length xs) (join_runs p gs (led p o hs))
  entered xs ys gs hs a b s t =
      ⊎_elim
      (λ (n : (xs ≡ []) × (gs ≡ [])).
      subst (λ z. IsEntered initial p c (z ++ ys) (length z) (join_runs p gs (led p o hs))) (sym n.0)
      (subst (λ z. IsEntered initial p c ys 0 (join_runs p z (led p o hs))) (sym n.1) at_front))
      (λ (n : HasLast initial p xs gs).
      subst (λ z. IsEntered initial p c (z ++ ys) (length z) (join_runs p gs (led p o hs))) (sym n.are_chunks)
      (subst (λ z. IsEntered initial p c ((n.chunks ++ n.run ∷ []) ++ ys) (length (n.chunks ++ n.run ∷ []))
      (join_runs p z (led p o hs))) (sym n.are_offsets)
      (behind n.chunks n.run n.offsets n.last n.before n.said
      (all_back AreSmall n.offsets (n.last ∷ []) (subst (AllByRecursion AreSmall) n.are_offsets s)).0)))
      (last_cases initial p xs gs a)
    where
      w : IsLed initial p c o ys hs
      w = led_so ys hs b t

      at_front : IsEntered initial p c ys 0 (led p o hs)
      at_front = record {
        front = [];
        run = c ∷ w.more;
        back = w.back;
        earlier = [];
        first = o;
        rest = w.rest;
        later = w.later;
        put = put_after [] (head_run ys) ys 0 c false (none_in_front ys) (run_behind [] ys) refl
            ∙ ap (λ z. (z, 0)) (w.alone [] (c ∷ part (joins_after (head_run ys) c) (head_run ys)))
            ∙ ap (λ z. ((c ∷ z) ∷ w.back, 0)) w.part_is;
        is = w.is;
        fronts = tt;
        said = (i, w.said);
        backs = w.backs;
        only = λ u. (tt, w.only u);
      }

      behind : (zs : List (List ChunkPayloadData)) (z : List ChunkPayloadData) (ks : List (List ℕ)) (k : List ℕ)
          → AreRuns initial p zs ks → CarryDataOf initial p z k → AreSmall k
          → IsEntered initial p c ((zs ++ z ∷ []) ++ ys) (length (zs ++ z ∷ []))
          (join_runs p (ks ++ k ∷ []) (led p o hs))
      behind zs z ks k before said small =
          let test = joins_front w.rest z k said small in
          let model : join_runs p (ks ++ k ∷ []) (led p o hs) ≡ ks ++ join_run p k ((o ∷ w.rest) ∷ w.later)
          = ap (join_runs p (ks ++ k ∷ [])) w.is ∙ join_last p ks k ((o ∷ w.rest) ∷ w.later) in
          ⊎_elim
          (λ (e : last_leads p k (o ∷ w.rest) ≡ true).
          on zs z ks k before said e (put_after z (head_run ys) ((zs ++ z ∷ []) ++ ys) (length (zs ++ z ∷ [])) c true
          (run_in_front zs ys z) (run_behind (zs ++ z ∷ []) ys) (test ∙ e))
          (model ∙ ap (λ y. ks ++ cond y ((k ++ (o ∷ w.rest)) ∷ w.later) (k ∷ (o ∷ w.rest) ∷ w.later)) e))
          (λ (e : last_leads p k (o ∷ w.rest) ≡ false). record {
            front = zs ++ z ∷ [];
            run = c ∷ w.more;
            back = w.back;
            earlier = ks ++ k ∷ [];
            first = o;
            rest = w.rest;
            later = w.later;
            put =
                put_after z (head_run ys) ((zs ++ z ∷ []) ++ ys) (length (zs ++ z ∷ [])) c false (run_in_front zs ys z)
                (run_behind (zs ++ z ∷ []) ys) (test ∙ e)
                ∙ ap (λ y. (y, length (zs ++ z ∷ [])))
                (w.alone (zs ++ z ∷ []) (c ∷ part (joins_after (head_run ys) c) (head_run ys)))
                ∙ ap (λ y. ((zs ++ z ∷ []) ++ (c ∷ y) ∷ w.back, length (zs ++ z ∷ []))) w.part_is;
            is =
                model ∙ ap (λ y. ks ++ cond y ((k ++ (o ∷ w.rest)) ∷ w.later) (k ∷ (o ∷ w.rest) ∷ w.later)) e
                ∙ sym (append_assoc ks (k ∷ []) ((o ∷ w.rest) ∷ w.later));
            fronts = runs_join initial p zs (z ∷ []) ks (k ∷ []) before (said, tt);
            said = (i, w.said);
            backs = w.backs;
            only = λ u. (
              all_front IsIncomplete (zs ++ z ∷ []) ys u,
              w.only
                  (all_back IsIncomplete (zs ++ z ∷ []) ys u),
            );
          })
          (cases_Bool (last_leads p k (o ∷ w.rest)))
        where
          on : (zs : List (List ChunkPayloadData)) (z : List ChunkPayloadData) (ks : List (List ℕ)) (k : List ℕ)
              → AreRuns initial p zs ks → CarryDataOf initial p z k
              → last_leads p k (o ∷ w.rest) ≡ true
              → with_unordered ((zs ++ z ∷ []) ++ ys) (length (zs ++ z ∷ [])) c
              ≡ (
                put_between true (joins_after (head_run ys) c) ((zs ++ z ∷ []) ++ ys) (length (zs ++ z ∷ []))
                    (z ++ c ∷ part (joins_after (head_run ys) c) (head_run ys)),
                length (zs ++ z ∷ []) - 1,
              )
              → join_runs p (ks ++ k ∷ []) (led p o hs) ≡ ks ++ (k ++ (o ∷ w.rest)) ∷ w.later
              → IsEntered initial p c ((zs ++ z ∷ []) ++ ys) (length (zs ++ z ∷ []))
              (join_runs p (ks ++ k ∷ []) (led p o hs))
          on zs z ks [] before said e f g = absurd (false≢true e)
          on zs z ks (x ∷ k) before said e f g = record {
            front = zs;
            run = z ++ c ∷ w.more;
            back = w.back;
            earlier = ks;
            first = x;
            rest = k ++ (o ∷ w.rest);
            later = w.later;
            put =
                f ∙ ap (λ y. (y, length (zs ++ z ∷ []) - 1))
                (w.joined zs z (z ++ c ∷ part (joins_after (head_run ys) c) (head_run ys)))
                ∙ ap (λ y. (zs ++ (z ++ c ∷ y) ∷ w.back, length (zs ++ z ∷ []) - 1)) w.part_is
                ∙ ap (λ y. (zs ++ (z ++ c ∷ w.more) ∷ w.back, y)) (one_less zs z);
            is = g;
            fronts = before;
            said = said_join initial p z (c ∷ w.more) (x ∷ k) (o ∷ w.rest) said (i, w.said);
            backs = w.backs;
            only = λ u. (
              all_front IsIncomplete zs (z ∷ []) (all_front IsIncomplete (zs ++ z ∷ []) ys u),
              w.only (all_back IsIncomplete (zs ++ z ∷ []) ys u),
            );
          }

-- a run at its place that is a whole message is taken out
pub finished_is : (front back : List (List ChunkPayloadData)) (run : List ChunkPayloadData) (ms : List ReceivedMessage)
    → finished (front ++ run ∷ back) (length front) ms
    ≡ cond (is_complete run) (front ++ back, ms ++ message_of run ∷ []) (front ++ run ∷ back, ms)
finished_is front back run ms =
    ap (λ z. cond (is_complete z) (remove (front ++ run ∷ back) (length front), ms ++ message_of z ∷ [])
    (front ++ run ∷ back, ms)) (run_behind front (run ∷ back))
    ∙ ap (λ z. cond (is_complete run) (z, ms ++ message_of run ∷ []) (front ++ run ∷ back, ms))
    (remove_seam front back run)
