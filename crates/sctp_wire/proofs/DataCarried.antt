-- Packets of DATA carry what was added to them, in order.
use Rattle.std.proofs.Common.{◌≡◌, ℕ, true, false, List, [], ◌∷◌, ◌++◌, refl, sym, ap, ◌∙◌, ⊎_elim}
use Rattle.std.specs.List.{filter}
use Rattle.std.proofs.lemmas.Bool.{cases_Bool}
use Rattle.std.proofs.lemmas.List.{append_assoc, append-nil}
use Rattle.std.proofs.lemmas.List.Elements.{filter-append}
use Rattle.sctp_wire_types.specs.declared.chunk.ChunkPayloadData.{ChunkPayloadData}
use Rattle.sctp_wire_types.specs.declared.packet.CommonHeader.{CommonHeader}
use Rattle.sctp_wire.specs.DataPackets.{DataWritten, all_of, closed, data_fits, has_room, joined_by, nothing_written}
use Rattle.sctp_wire.specs.DataPackets.{unless_empty, with_all, with_data}

carried : DataWritten → List ChunkPayloadData
carried w = all_of w.done ++ w.current

all_of_more : (bs : List (List ChunkPayloadData)) (cs : List ChunkPayloadData)
    → all_of (bs ++ unless_empty cs) ≡ all_of bs ++ cs
all_of_more [] [] = refl
all_of_more [] (c ∷ cs) = append-nil (c ∷ cs)
all_of_more (b ∷ bs) cs =
    ap (λ (z : List ChunkPayloadData). b ++ z) (all_of_more bs cs) ∙ sym (append_assoc b (all_of bs) cs)

closed_all : (w : DataWritten) → all_of (closed w).done ≡ carried w
unfolding carried
closed_all w = all_of_more w.done w.current

closed_carries : (w : DataWritten) → carried (closed w) ≡ carried w
unfolding carried
closed_carries w = append-nil (all_of (closed w).done) ∙ all_of_more w.done w.current

joined_carries : (w : DataWritten) (c : ChunkPayloadData) → carried (joined_by w c) ≡ carried w ++ c ∷ []
unfolding carried
joined_carries w c = sym (append_assoc (all_of w.done) w.current (c ∷ []))

data_carries : (w : DataWritten) (c : ChunkPayloadData)
    → carried (with_data w c) ≡ carried w ++ filter data_fits (c ∷ [])
data_carries w c =
    ⊎_elim
    (λ (fits : data_fits c ≡ true).
    ⊎_elim
    (λ (room : has_room w c ≡ true). rw (fits, room) (joined_carries w c))
    (λ (full : has_room w c ≡ false).
    rw (fits, full)
    (joined_carries (closed w) c ∙ ap (λ (z : List ChunkPayloadData). z ++ c ∷ []) (closed_carries w)))
    (cases_Bool (has_room w c)))
    (λ (long : data_fits c ≡ false). rw long (sym (append-nil (carried w))))
    (cases_Bool (data_fits c))

all_carries : (w : DataWritten) (cs : List ChunkPayloadData)
    → carried (with_all w cs) ≡ carried w ++ filter data_fits cs
all_carries w [] = sym (append-nil (carried w))
all_carries w (c ∷ cs) =
    all_carries (with_data w c) cs
    ∙ ap (λ (z : List ChunkPayloadData). z ++ filter data_fits cs) (data_carries w c)
    ∙ append_assoc (carried w) (filter data_fits (c ∷ [])) (filter data_fits cs)
    ∙ ap (λ (z : List ChunkPayloadData). carried w ++ z) (sym (filter-append data_fits (c ∷ []) cs))

nothing_carried : (header : CommonHeader) (mtu : ℕ) → carried (nothing_written header mtu) ≡ []
unfolding carried
nothing_carried header mtu = refl

-- DATA that is bundled apart three times
pub three_carried : (header : CommonHeader) (mtu : ℕ) (xs ys zs : List ChunkPayloadData)
    → all_of (closed (with_all (closed (with_all (closed (with_all (nothing_written header mtu) xs)) ys)) zs)).done
    ≡ filter data_fits (xs ++ ys ++ zs)
three_carried header mtu xs ys zs =
    let a = with_all (nothing_written header mtu) xs in
    let b = with_all (closed a) ys in
    let one : carried (with_all (nothing_written header mtu) xs) ≡ filter data_fits xs =
    all_carries (nothing_written header mtu) xs
    ∙ ap (λ (z : List ChunkPayloadData). z ++ filter data_fits xs) (nothing_carried header mtu) in
    let two : carried (with_all (closed (with_all (nothing_written header mtu) xs)) ys) ≡ filter data_fits (xs ++ ys) =
    all_carries (closed a) ys
    ∙ ap (λ (z : List ChunkPayloadData). z ++ filter data_fits ys) (closed_carries a ∙ one)
    ∙ sym (filter-append data_fits xs ys) in
    closed_all (with_all (closed b) zs) ∙ all_carries (closed b) zs
    ∙ ap (λ (z : List ChunkPayloadData). z ++ filter data_fits zs) (closed_carries b ∙ two)
    ∙ sym (filter-append data_fits (xs ++ ys) zs)

-- All this leaves the common header as it is.

header_kept : (w : DataWritten) (c : ChunkPayloadData) → (with_data w c).header ≡ w.header
header_kept w c =
    ⊎_elim
    (λ (fits : data_fits c ≡ true).
    ⊎_elim (λ (room : has_room w c ≡ true). rw (fits, room) refl)
    (λ (full : has_room w c ≡ false). rw (fits, full) refl)
    (cases_Bool (has_room w c)))
    (λ (long : data_fits c ≡ false). rw long refl)
    (cases_Bool (data_fits c))

pub header_stays : (w : DataWritten) (cs : List ChunkPayloadData) → (with_all w cs).header ≡ w.header
header_stays w [] = refl
header_stays w (c ∷ cs) = header_stays (with_data w c) cs ∙ header_kept w c
