-- A session turn by turn: what the turns so far keep, and what the last of them leaves.
use Rattle.std.proofs.Common.{◌≡◌, ℕ, ◌+◌, ◌-◌, ◌<◌, ◌==◌, Bool, true, false, cond, List, [], ◌∷◌, ◌++◌, length, take, None, Some, Result, Ok, Err, refl, sym, subst, ap, ◌∙◌, arith, append_assoc, length-append}
use mathlib.Core.Logic.{inl, inr}
use Rattle.std.proofs.lemmas.Bool.Decides.{nat_tests}
use Rattle.std.proofs.lemmas.List.{append-nil}
use Rattle.std.proofs.Math.Seq.{take-append-add}
use Rattle.std.proofs.KnownBytes.{Appends-trans, Appends-nil, Consumes-nil}
use Rattle.std.specs.declared.option.Option.{Option}
use Rattle.std.specs.Io.KnownBytes.{Appends}
use Rattle.fd_lists.specs.Counts.{Rose}
use Rattle.fd_kinds.specs.declared.row.Row.{Row}
use Rattle.fd_kinds.specs.declared.query.Query.{Query}
use Rattle.fd_kinds.specs.declared.store.Seen.{Seen}
use Rattle.fd_kinds.specs.declared.stand.Stand.{Stand}
use Rattle.fd_kinds.specs.declared.store.WriteRefusal.{WriteRefusal}
use Rattle.fd_kinds.specs.declared.store.ReadRefusal.{ReadRefusal}
use Rattle.fd_http.specs.declared.limits.TheConstants.{MOST_REQUESTS}
use Rattle.fd_http.specs.declared.request.Request.{Request}
use Rattle.fd_http.specs.declared.request.Arrived.TheVariants as arrived
use Rattle.fd_http.specs.Arrivals.{Arrives, AtReadFault, IsUnfinished}
use Rattle.fd_http.specs.declared.replies.Response.TheVariants as response
use Rattle.fd_http.specs.Replies.{AppendsFront, reply_bytes}
use Rattle.fd_http.specs.Inputs.{Holds, refused, End, closed, limit, refused_as}
use Rattle.fd_http.specs.Inputs as ends
use Rattle.fd_http.specs.Prefixes.{Leads}
use Rattle.fd_http.specs.Remainders.{IfTold, Given}
use Rattle.fd_http.specs.declared.request.RequestFault.{RequestFault}
use Rattle.fd_http.specs.declared.request.RequestFault.TheVariants as head
use Rattle.fd_device.specs.declared.sink.Put.{Put}
use Rattle.fd_device.specs.declared.sink.Put.TheVariants.{Done, Failed}
use Rattle.fd_device.specs.Streams.{PutCause}
use Rattle.fd_api.specs.declared.note.Note.{Note}
use Rattle.fd_api.specs.declared.note.Note.TheVariants as says
use Rattle.fd_api.specs.declared.sessions.EndKind.{EndKind}
use Rattle.fd_api.specs.declared.sessions.EndKind.TheVariants as kind
use Rattle.fd_api.specs.Streams.{Streams}
use Rattle.fd_api.specs.Sessions.{Runs, Serves, Ends, SinkCause, is_last, is_faulted, Begins, IsSplit, IsBegun, IsDrained, IsDismissal, TakesThen, KeepsPace, AreSound, FaultsLast}
use Rattle.fd_api.specs.Turns.{TurnState, between, ReadsNext, HasGiven, PutsReply, Turned, Unturned, NoRequest, EndsAt, Silent, Turns, after_put}
use Rattle.fd_api.proofs.InputSteps.{HasRead, HasSplit, leads_none, no_pace, pace_push, pace_turn, has_read_more, has_read_close, has_read_end, has_read_refused, has_read_limit, given_push, given_all}
use Rattle.fd_api.proofs.SinkLemmas.{Appends-Keeps}

-- the end at the most requests is no disk fault
pub not_faulted : kind.Limit ≡ kind.DiskFault → ⊥
not_faulted e = cc

second_nil : (xs ys : List ℕ) → xs ++ ys ≡ [] → ys ≡ []
second_nil [] ys e = e
second_nil (x ∷ xs) ys e = cc

nothing_read : (left : Option (List ℕ)) → HasRead left left [] [] [] MOST_REQUESTS
nothing_read None = tt
nothing_read (Some bytes) = leads_none MOST_REQUESTS bytes

-- the last turn is the one with room for one request
pub last_of : (served : ℕ) → served < MOST_REQUESTS → (served + 1 == MOST_REQUESTS) ≡ (MOST_REQUESTS - served == 1)
last_of served some = grind (arith, nat_tests)

-- one more note that tells of no disk fault
sound_push : (notes : List Note) (note : Note) → AreSound notes → is_faulted note ≡ false → AreSound (notes ++ note ∷ [])
sound_push [] note sound is = (is, tt)
sound_push (first ∷ notes) note sound is = (sound.0, sound_push notes note sound.1 is)

-- the one note that tells of one
faulted_is : (note : Note) → is_faulted note ≡ true → note ≡ says.Faulted
faulted_is (says.Read w) e = cc
faulted_is (says.Wrote n) e = cc
faulted_is (says.Stood drawn synced w) e = cc
faulted_is (says.NotDrawn drawn) e = cc
faulted_is (says.Spent drawn) e = cc
faulted_is says.Refused e = cc
faulted_is says.Faulted e = refl
faulted_is says.Short e = cc

-- what the next turn needs
goes_on_from : (faulted close : Bool) (put : Put) → cond faulted (Some kind.DiskFault) (after_put close put) ≡ None → (faulted ≡ false) × (put ≡ Done) × (close ≡ false)
goes_on_from true close put e = cc
goes_on_from false true Done e = cc
goes_on_from false false Done e = (refl, refl, refl)
goes_on_from false close Failed e = cc

-- the requests begin what was told
begins_from : (old now : Option (List ℕ)) (inbox : List ℕ) (requests : List Request) (room : ℕ) → HasRead old now [] inbox requests room → Begins old requests
begins_from None now inbox requests room read = tt
begins_from (Some bytes) None inbox requests room read = absurd read
begins_from (Some bytes) (Some left) inbox requests room read = (room, inbox ++ left, read)

-- the requests split it
split_from : (old now : Option (List ℕ)) (inbox : List ℕ) (requests : List Request) (end : End) → HasSplit old now [] inbox requests end → IsSplit old requests end
split_from None now inbox requests end split = tt
split_from (Some bytes) None inbox requests end split = absurd split
split_from (Some bytes) (Some left) inbox requests end split = split

begun_from : (old mid now : Option (List ℕ)) (inbox_mid inbox : List ℕ) (requests : List Request) (room : ℕ) (request : Request) → HasRead old mid [] inbox_mid requests room → 0 < room
    → Arrives mid now inbox_mid inbox (Ok (arrived.One request)) → (close : Bool) → request.close ≡ close → IsBegun old (requests ++ request ∷ [])
begun_from old mid now inbox_mid inbox requests room request read some arrives true is =
    inr (split_from old now inbox (requests ++ request ∷ []) closed (has_read_close old mid now [] inbox_mid inbox requests room request read some arrives is))
begun_from old mid now inbox_mid inbox requests room request read some arrives false is =
    inl (begins_from old now inbox (requests ++ request ∷ []) (room - 1) (has_read_more old mid now [] inbox_mid inbox requests room request read some arrives is))

-- the bytes so far, and a front of some more
front_more : (old mid now : Option (List ℕ)) (output bytes : List ℕ) → Appends old mid output → AppendsFront mid now bytes → AppendsFront old now (output ++ bytes)
front_more old mid now output bytes so_far front =
    let whole : take (length output + front.0) (output ++ bytes) ≡ output ++ take front.0 bytes = take-append-add output bytes front.0 in (
      length output + front.0,
      omega (arith, length-append output bytes, front.1),
      subst (Appends old now) (sym whole) (Appends-trans old mid now output (take front.0 bytes) so_far front.2),
    )

-- no byte is left where the next request was not there
drained_from : (old mid now : Option (List ℕ)) (inbox_mid inbox : List ℕ) (requests : List Request) (room : ℕ) → HasRead old mid [] inbox_mid requests room → Arrives mid now inbox_mid inbox (Ok arrived.End) → IsDrained old now
drained_from None mid now inbox_mid inbox requests room read arrives = tt
drained_from (Some bytes) None now inbox_mid inbox requests room read arrives = absurd read
drained_from (Some bytes) (Some left) None inbox_mid inbox requests room read arrives = arrives
drained_from (Some bytes) (Some left) (Some rest) inbox_mid inbox requests room read arrives = second_nil inbox rest arrives.1

module _ {S : Type 0} (write_gives : S → List Row → Result ℕ WriteRefusal → S → Type 0) (read_gives : S → ℕ → Query → Result Seen ReadRefusal → S → Type 0) (stand_gives : S → Stand → S → Type 0) where
  -- one more request at the end of a run
  pub runs_push : (requests : List Request) (notes : List Note) (old mid new : S) (room left : ℕ) (output bytes : List ℕ) (request : Request) (note : Note)
      → Runs write_gives read_gives stand_gives old room requests notes mid output → length requests + left ≡ room → 0 < left
      → Serves write_gives read_gives stand_gives request mid note new (is_last left request note) bytes
      → Runs write_gives read_gives stand_gives old room (requests ++ request ∷ []) (notes ++ note ∷ []) new (output ++ bytes)
  runs_push [] [] old mid new room left output bytes request note run count some serves =
      let same : left ≡ room = omega (arith, count) in
      let at_old : Serves write_gives read_gives stand_gives request old note new (is_last left request note) bytes = subst (λ x. Serves write_gives read_gives stand_gives request x note new (is_last left request note) bytes) run.0 serves in
      let P : ℕ → Type 0 = λ n. 0 < n in (
        subst P same some,
        new,
        bytes,
        [],
        subst (λ n. Serves write_gives read_gives stand_gives request old note new (is_last n request note) bytes) same at_old,
        (refl, refl),
        ap (λ (l : List ℕ). l ++ bytes) run.1 ∙ sym (append-nil bytes),
      )
  runs_push [] (n ∷ ns) old mid new room left output bytes request note run count some serves = absurd run
  runs_push (q ∷ qs) [] old mid new room left output bytes request note run count some serves = absurd run
  runs_push (q ∷ qs) (n ∷ ns) old mid new room left output bytes request note run count some serves =
      let fewer : length qs + left ≡ room - 1 = omega (arith, count) in (
        run.0,
        run.1,
        run.2,
        run.3 ++ bytes,
        run.4,
        runs_push qs ns run.1 mid new (room - 1) left run.3 bytes request note run.5 fewer some serves,
        ap (λ (l : List ℕ). l ++ bytes) run.6 ∙ append_assoc run.2 run.3 bytes,
      )

  -- the requests so far, with room for so many more
  pub record SoFar (old : Streams) (first : S) (now : TurnState S) (room : ℕ) : Type 0 where
    pub requests : List Request
    pub output : List ℕ
    pub read : HasRead old.input.told now.streams.input.told [] now.inbox requests room
    pub given : Given old.input.told now.streams.input.told [] (λ given. Leads requests MOST_REQUESTS given room now.inbox)
    pub pace : KeepsPace old.input.told now.streams.input.told requests
    pub sound : AreSound now.notes
    pub count : length requests + room ≡ MOST_REQUESTS
    pub run : Runs write_gives read_gives stand_gives first MOST_REQUESTS requests now.notes now.store output
    pub written : Appends old.output.told now.streams.output.told output

  -- no turn yet
  pub none_yet : (old : Streams) (store : S) (notes : List Note) → notes ≡ [] → SoFar old store (between old [] notes store) MOST_REQUESTS
  none_yet old store notes none = record {
    requests = [];
    output = [];
    read = nothing_read old.input.told;
    given = record { bytes = []; consumed = Consumes-nil old.input.told; holds = (refl, refl) };
    pace = no_pace old.input.told;
    sound = subst AreSound (sym none) tt;
    count = refl;
    run = subst (λ (ns : List Note). Runs write_gives read_gives stand_gives store MOST_REQUESTS [] ns store []) (sym none) (refl, refl);
    written = Appends-nil old.output.told;
  }

  module _ (old : Streams) (first : S) (mid now : TurnState S) (room : ℕ) (so_far : SoFar old first mid room) (some : 0 < room) where
    abbrev left_old : Option (List ℕ)
    left_old = old.input.told

    abbrev left_mid : Option (List ℕ)
    left_mid = mid.streams.input.told

    abbrev left_now : Option (List ℕ)
    left_now = now.streams.input.told

    abbrev taken_old : Option (List ℕ)
    taken_old = old.output.told

    abbrev taken_mid : Option (List ℕ)
    taken_mid = mid.streams.output.told

    abbrev taken_now : Option (List ℕ)
    taken_now = now.streams.output.told

    module _ (end : Option EndKind) (t : Turned write_gives read_gives stand_gives mid now (room == 1) end) where
      abbrev requests : List Request
      requests = so_far.requests ++ t.request ∷ []

      abbrev output : List ℕ
      output = so_far.output ++ t.bytes

      -- one more request, which was replied to
      run : Runs write_gives read_gives stand_gives first MOST_REQUESTS requests now.notes now.store output
      run =
          subst (λ (ns : List Note). Runs write_gives read_gives stand_gives first MOST_REQUESTS requests ns now.store output) (sym t.noted)
          (runs_push so_far.requests mid.notes first mid.store now.store MOST_REQUESTS room so_far.output t.bytes t.request t.note so_far.run so_far.count some t.serves)

      pace : KeepsPace left_old left_now requests
      pace = pace_push left_old left_now so_far.requests t.request (pace_turn left_old left_mid left_now mid.inbox so_far.requests room so_far.pace so_far.given some t.paced)

      -- no disk fault yet
      sound : is_faulted t.note ≡ false → AreSound now.notes
      sound is = subst AreSound (sym t.noted) (sound_push mid.notes t.note so_far.sound is)

      -- the first one
      faulted : is_faulted t.note ≡ true → FaultsLast kind.DiskFault now.notes
      faulted is = (mid.notes, t.noted ∙ ap (λ (n : Note). mid.notes ++ n ∷ []) (faulted_is t.note is), so_far.sound)

      begun : IsBegun left_old requests
      begun = begun_from left_old left_mid left_now mid.inbox now.inbox so_far.requests room t.request so_far.read some t.arrives t.request.close refl

    goes_on : Turned write_gives read_gives stand_gives mid now (room == 1) None → SoFar old first now (room - 1) × (now.streams.output.faults ≡ mid.streams.output.faults)
    goes_on t =
        let going = goes_on_from (is_faulted t.note) t.request.close t.put (sym t.goes) in
        let sent : Appends taken_mid taken_now t.bytes = subst (PutsReply taken_mid taken_now t.bytes) going.1 t.sent in
        let kept : now.streams.output.faults ≡ mid.streams.output.faults = subst (PutCause mid.streams.output.faults now.streams.output.faults) going.1 t.count in (
          record {
            requests = requests None t;
            output = output None t;
            read = has_read_more left_old left_mid left_now [] mid.inbox now.inbox so_far.requests room t.request so_far.read some t.arrives going.2;
            given = given_push left_old left_mid left_now mid.inbox now.inbox so_far.requests room t.request so_far.given some t.given going.2;
            pace = pace None t;
            sound = sound None t going.0;
            count = omega (arith, length-append so_far.requests (t.request ∷ []), so_far.count);
            run = run None t;
            written = Appends-trans taken_old taken_mid taken_now so_far.output t.bytes so_far.written sent;
          },
          kept,
        )

    module _ (same_count : mid.streams.output.faults ≡ old.output.faults) where
      abbrev before : ℕ
      before = old.output.faults

      abbrev now_count : ℕ
      now_count = now.streams.output.faults

      abbrev Finish : EndKind → Type 0
      Finish e = Ends write_gives read_gives stand_gives old now.streams first now.notes now.store e × SinkCause before now_count e

      -- what rose since the turn before rose since the begin
      rose_since : Rose mid.streams.output.faults now_count → Rose before now_count
      rose_since rose = subst (λ (n : ℕ). Rose n now_count) same_count rose

      module _ (end : Option EndKind) (t : Turned write_gives read_gives stand_gives mid now (room == 1) end) where
        -- the disk failed: the reply to that was written, or not
        failed : (put : Put) → is_faulted t.note ≡ true → PutsReply taken_mid taken_now t.bytes put → PutCause mid.streams.output.faults now_count put → Finish kind.DiskFault
        failed Done faults sent kept =
            let same : now_count ≡ before = kept ∙ same_count in (
              record { requests = requests end t; output = output end t; read = begun end t; pace = pace end t; run = run end t; written = inl (Appends-trans taken_old taken_mid taken_now so_far.output t.bytes so_far.written sent, same); faulted = faulted end t faults },
              inl same,
            )
        failed Failed faults sent rose = (
          record { requests = requests end t; output = output end t; read = begun end t; pace = pace end t; run = run end t; written = inr (front_more taken_old taken_mid taken_now so_far.output t.bytes so_far.written sent, rose_since rose); faulted = faulted end t faults },
          inr (rose_since rose),
        )

        ended_by : (faults close : Bool) (put : Put) (e : EndKind) → is_faulted t.note ≡ faults → t.request.close ≡ close → PutsReply taken_mid taken_now t.bytes put → PutCause mid.streams.output.faults now_count put
            → Some e ≡ cond faults (Some kind.DiskFault) (after_put close put) → Finish e
        ended_by true close put e faults closes sent cause is = let same : kind.DiskFault ≡ e = cc in subst Finish same (failed put faults sent cause)
        ended_by false close Failed e healthy closes sent rose is =
            let same : kind.WriteFault ≡ e = cc in
            subst Finish same (
              record { requests = requests end t; output = output end t; read = begun end t; pace = pace end t; run = run end t; written = inl (front_more taken_old taken_mid taken_now so_far.output t.bytes so_far.written sent); faulted = sound end t healthy },
              rose_since rose,
            )
        ended_by false true Done e healthy closes sent kept is =
            let same : kind.Closed ≡ e = cc in
            subst Finish same (
              record {
                requests = requests end t;
                output = output end t;
                read = split_from left_old left_now now.inbox (requests end t) closed (has_read_close left_old left_mid left_now [] mid.inbox now.inbox so_far.requests room t.request so_far.read some t.arrives closes);
                pace = pace end t;
                run = run end t;
                written = Appends-trans taken_old taken_mid taken_now so_far.output t.bytes so_far.written sent;
                faulted = sound end t healthy;
              },
              kept ∙ same_count,
            )
        ended_by false false Done e healthy closes sent kept is = cc

      turned_ends : (e : EndKind) → Turned write_gives read_gives stand_gives mid now (room == 1) (Some e) → Finish e
      turned_ends e t = ended_by (Some e) t (is_faulted t.note) t.request.close t.put e refl refl t.sent t.count t.goes

      module _ (end : Option EndKind) (u : Unturned write_gives read_gives stand_gives mid now end) where
        run_so_far : Runs write_gives read_gives stand_gives first MOST_REQUESTS so_far.requests now.notes now.store so_far.output
        run_so_far =
            subst (λ (x : S). Runs write_gives read_gives stand_gives first MOST_REQUESTS so_far.requests now.notes x so_far.output) (sym u.store)
            (subst (λ (ns : List Note). Runs write_gives read_gives stand_gives first MOST_REQUESTS so_far.requests ns mid.store so_far.output) (sym u.noted) so_far.run)

        pace_so_far : KeepsPace left_old left_now so_far.requests
        pace_so_far = pace_turn left_old left_mid left_now mid.inbox so_far.requests room so_far.pace so_far.given some u.paced

        sound_so_far : AreSound now.notes
        sound_so_far = subst AreSound (sym u.noted) so_far.sound

        begins : Begins left_old so_far.requests
        begins = begins_from left_old left_mid mid.inbox so_far.requests room so_far.read

        silent : Silent mid.streams.output now.streams.output → Appends taken_old taken_now so_far.output
        silent s = Appends-Keeps taken_old taken_mid taken_now so_far.output so_far.written s.taken

        split_refused : (f : RequestFault) → IfTold left_mid left_now mid.inbox now.inbox (λ rest after. Holds rest (refused f)) → IsSplit left_old so_far.requests (refused_as f)
        split_refused f holds = split_from left_old left_now now.inbox so_far.requests (refused_as f) (has_read_refused left_old left_mid left_now [] mid.inbox now.inbox so_far.requests room f so_far.read some holds)

        -- the one reply to a head that is refused was not written
        unwritten : (f : RequestFault) → IsSplit left_old so_far.requests (refused_as f) → Rose mid.streams.output.faults now_count
            → (last : List ℕ) → IsDismissal f last → AppendsFront taken_mid taken_now last → Finish kind.WriteFault
        unwritten f split rose last sent front = (
          record {
            requests = so_far.requests;
            output = so_far.output;
            read = inl begins;
            pace = pace_so_far;
            run = run_so_far;
            faulted = sound_so_far;
            written = inr (f, split, last, sent, front_more taken_old taken_mid taken_now so_far.output last so_far.written front);
          },
          rose_since rose,
        )

        -- it was written
        written_last : (f : RequestFault) → (last : List ℕ) → IsDismissal f last → Appends taken_mid taken_now last → TakesThen old.output now.streams.output f so_far.output
        written_last f last sent more = (last, sent, Appends-trans taken_old taken_mid taken_now so_far.output last so_far.written more)

        -- memory was wanting: the reply to that was written, or not
        gave_up : (put : Put) → PutsReply taken_mid taken_now (reply_bytes (response.Short true)) put → PutCause mid.streams.output.faults now_count put → Finish kind.NoMemory
        gave_up Done sent kept = (
          record {
            requests = so_far.requests;
            output = so_far.output;
            read = begins;
            pace = pace_so_far;
            run = run_so_far;
            faulted = sound_so_far;
            written = inl (Appends-trans taken_old taken_mid taken_now so_far.output _ so_far.written sent, kept ∙ same_count);
          },
          inl (kept ∙ same_count),
        )
        gave_up Failed front rose = (
          record {
            requests = so_far.requests;
            output = so_far.output;
            read = begins;
            pace = pace_so_far;
            run = run_so_far;
            faulted = sound_so_far;
            written = inr (front.0, front.1, Appends-trans taken_old taken_mid taken_now so_far.output _ so_far.written front.2, rose_since rose);
          },
          inr (rose_since rose),
        )

        refused_ends : (f : RequestFault) (e : EndKind) → ReadsNext mid now (Err f) → AtReadFault f (HasGiven mid now IsUnfinished)
            → EndsAt mid.streams.output now.streams.output f e → Finish e
        refused_ends head.BadHead e arrives given (inl (is, kept, last, sent, more)) =
            subst Finish (sym is) (record { requests = so_far.requests; output = so_far.output; read = split_refused head.BadHead arrives; pace = pace_so_far; run = run_so_far; faulted = sound_so_far; written = written_last head.BadHead last sent more }, kept ∙ same_count)
        refused_ends head.BadHead e arrives given (inr (is, rose, last, sent, front)) = subst Finish (sym is) (unwritten head.BadHead (split_refused head.BadHead arrives) rose last sent front)
        refused_ends head.NoLength e arrives given (inl (is, kept, last, sent, more)) =
            subst Finish (sym is) (record { requests = so_far.requests; output = so_far.output; read = split_refused head.NoLength arrives; pace = pace_so_far; run = run_so_far; faulted = sound_so_far; written = written_last head.NoLength last sent more }, kept ∙ same_count)
        refused_ends head.NoLength e arrives given (inr (is, rose, last, sent, front)) = subst Finish (sym is) (unwritten head.NoLength (split_refused head.NoLength arrives) rose last sent front)
        refused_ends head.TooLarge e arrives given (inl (is, kept, last, sent, more)) =
            subst Finish (sym is) (record { requests = so_far.requests; output = so_far.output; read = split_refused head.TooLarge arrives; pace = pace_so_far; run = run_so_far; faulted = sound_so_far; written = written_last head.TooLarge last sent more }, kept ∙ same_count)
        refused_ends head.TooLarge e arrives given (inr (is, rose, last, sent, front)) = subst Finish (sym is) (unwritten head.TooLarge (split_refused head.TooLarge arrives) rose last sent front)
        refused_ends head.Cut e arrives given (is, s) =
            subst Finish (sym is) (record { requests = so_far.requests; output = so_far.output; read = split_refused head.Cut arrives; pace = pace_so_far; run = run_so_far; faulted = sound_so_far; written = silent s }, s.count ∙ same_count)
        refused_ends head.ReadFault e arrives given (is, s) =
            subst Finish (sym is) (record { requests = so_far.requests; output = so_far.output; read = (begins, given_all left_old left_mid left_now mid.inbox so_far.requests room so_far.given some given); pace = pace_so_far; run = run_so_far; faulted = sound_so_far; written = silent s }, s.count ∙ same_count)
        refused_ends head.NoMemory e arrives given (is, short) = subst Finish (sym is) (gave_up short.0 short.1 short.2)

        ended : ReadsNext mid now (Ok arrived.End) → Silent mid.streams.output now.streams.output → Finish kind.Ended
        ended arrives s = (
          record {
            requests = so_far.requests;
            output = so_far.output;
            read = (
              split_from left_old left_now now.inbox so_far.requests ends.ended (has_read_end left_old left_mid left_now [] mid.inbox now.inbox so_far.requests room so_far.read some arrives),
              drained_from left_old left_mid left_now mid.inbox now.inbox so_far.requests room so_far.read arrives,
            );
            pace = pace_so_far;
            run = run_so_far;
            faulted = sound_so_far;
            written = silent s;
          },
          s.count ∙ same_count,
        )

        how_ends : (e : EndKind) → NoRequest mid now e → Finish e
        how_ends e (inl (is, arrives, s)) = subst Finish (sym is) (ended arrives s)
        how_ends e (inr (f, arrives, given, ends)) = refused_ends f e arrives given ends

      unturned_ends : (e : EndKind) → Unturned write_gives read_gives stand_gives mid now (Some e) → Finish e
      unturned_ends e u = let same : u.kind ≡ e = cc in subst Finish same (how_ends (Some e) u u.kind u.how)

      pub turn_ends : (last : Bool) (e : EndKind) → last ≡ (room == 1) → Turns write_gives read_gives stand_gives mid now last (Some e) → Finish e
      turn_ends last e is turns = by (subst (λ (b : Bool). Turns write_gives read_gives stand_gives mid now b (Some e)) is turns)
        where
          by : Turns write_gives read_gives stand_gives mid now (room == 1) (Some e) → Finish e
          by (inl t) = turned_ends e t
          by (inr u) = unturned_ends e u

      pub turn_goes_on : (last : Bool) → last ≡ (room == 1) → Turns write_gives read_gives stand_gives mid now last None → SoFar old first now (room - 1) × (now_count ≡ before)
      turn_goes_on last is turns = by (subst (λ (b : Bool). Turns write_gives read_gives stand_gives mid now b None) is turns)
        where
          by : Turns write_gives read_gives stand_gives mid now (room == 1) None → SoFar old first now (room - 1) × (now_count ≡ before)
          by (inl t) = let on = goes_on t in (on.0, on.1 ∙ same_count)
          by (inr u) = let never = u.ends in cc

  -- the last of so many requests was replied to
  pub limit_ends : (old : Streams) (first : S) (now : TurnState S) → SoFar old first now 0 → Ends write_gives read_gives stand_gives old now.streams first now.notes now.store kind.Limit
  limit_ends old first now so_far = record {
    requests = so_far.requests;
    output = so_far.output;
    read = split_from old.input.told now.streams.input.told now.inbox so_far.requests limit (has_read_limit old.input.told now.streams.input.told [] now.inbox so_far.requests 0 so_far.read refl);
    pace = so_far.pace;
    run = so_far.run;
    written = so_far.written;
    faulted = so_far.sound;
  }
