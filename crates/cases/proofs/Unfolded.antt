-- Names that stand for many on a line `unfolding`: to unfold one is to unfold all that its own line names.
use Rattle.bits.specs.Pattern as pattern
use Rattle.reader.specs.Got as got
use Rattle.reader.specs.Search as search
use Rattle.decode.specs.TaggedVariable as six
use Rattle.decode.specs.Variable as variable
use Rattle.tagged.specs.Choose.{pairs}
use Rattle.tagged.specs.Tagged16 as tagged16
use Rattle.tagged.specs.Tagged32 as tagged32
use Rattle.predictor.specs.Histories as histories
use Rattle.predictor.specs.Predictors as predictors
use Rattle.predictor.specs.Sign as sign
use Rattle.plan.specs.Known as known
use Rattle.plan.specs.Plan as plan
use Rattle.plan.specs.Sound as sound
use Rattle.raws.specs.Groups as groups
use Rattle.raws.specs.Raws as raws
use Rattle.frame.specs.Frames as frames
use Rattle.frame.specs.Past as past
use Rattle.frame.specs.Time as time
use Rattle.frame.specs.Values as values
use Rattle.history.specs.History as history
use Rattle.event.specs.Events as events
use Rattle.extent.specs.Extent as extent
use Rattle.section.specs.Answers as answers
use Rattle.section.specs.Refusals as refusals
use Rattle.section.specs.Tally as tally
use Rattle.section.specs.Walk as section
use Rattle.calls.specs.Call as calls
use Rattle.walks.specs.Walks as walks
use Rattle.resync.specs.From as from
use Rattle.resync.specs.Runs as runs
use Rattle.header.specs.Header as header
use Rattle.header.specs.Lines as lines
use Rattle.items.specs.Items as items
use Rattle.items.specs.Said as said
use Rattle.items.specs.Table.{table}
use Rattle.items.specs.Text.{same}
use Rattle.definition.specs.Checks as checks
use Rattle.definition.specs.Defined as defined
use Rattle.definition.specs.MainLists as mainLists
use Rattle.definition.specs.SlowLists as slowLists
use Rattle.cases.specs.Sessions as sessions

-- the encodings
unfoldable pub encodings_open : Unit {0}
unfolding pattern.wrap pattern.pattern pattern.lowered pattern.signed pattern.meant
    got.over got.after got.onward got.◌>>=◌ got.give got.fault got.byte got.bytes
    six.marked six.fields six.headed six.alone six.encoding6 variable.sevens variable.encoding1 variable.zigzag variable.encoding0 variable.encoding9
    pairs tagged16.width tagged16.widths tagged16.halves tagged16.big tagged16.unpacked tagged16.encoding8
    tagged32.two_bits tagged32.four_bits tagged32.six_bits tagged32.whole_bytes tagged32.encoding7
encodings_open = tt

-- the predictors
unfoldable pub predictors_open : Unit {0}
unfolding predictors.or_zero predictors.meaning predictors.from_both predictors.straight predictors.half predictors.mean
    predictors.prediction predictors.applied
    sign.is_signed sign.value_of sign.up_to sign.fits
predictors_open = tt

-- main and slow frames
unfoldable pub frames_open : Unit {0}
unfolding encodings_open predictors_open groups.size groups.runs_behind groups.runs groups.alone
    groups.patterned groups.patterns groups.group groups.of_runs groups.numbers
    raws.raw raws.timed raws.intra_raw raws.inter_raw raws.slow_raw
    frames.intra_fields frames.inter_fields frames.slow_fields frames.intra_frame
    frames.inter_frame frames.slow_values frames.intra_read frames.inter_read frames.slow_read
    past.body_of past.no_frame time.skipped_after time.iteration_after time.top time.held time.behind_inter time.time_after
    values.nth values.prediction_at values.values_behind values.values_of
frames_open = tt

-- a log's lists
unfoldable pub lists_open : Unit {0}
unfolding plan.core plan.shape plan.rules plan.nothing sound.met sound.unmet_from sound.unmet_main sound.unmet_slow sound.is_interval
    header.header_of header.lists_of header.value_of header.last_from header.newer lines.lines lines.bare lines.begins lines.headers lines.total
    items.items items.absent items.given items.part said.number_among said.predictor_of said.encoding_of
    said.blank said.trim_start said.trim_end said.unsigned said.sign_code table same
    checks.◌or_else◌ checks.unknown_in checks.unknown_from
    defined.main_items defined.slow_items defined.main_absent defined.slow_absent defined.no_slow_lists defined.main_finding defined.slow_finding defined.judged
    defined.fields_of defined.in_interval defined.definition_of defined.defined
    mainLists.rounds mainLists.said mainLists.is_field mainLists.in_rounds mainLists.reached mainLists.wrong mainLists.lengths mainLists.in_lengths
    mainLists.fields_from mainLists.motor_from mainLists.main_of mainLists.in_needs mainLists.judged_main
    slowLists.slow_rounds slowLists.slow_said slowLists.equal_counts slowLists.slow_of slowLists.judged_four slowLists.judged_slow
lists_open = tt

-- the walk
unfoldable pub walk_open : Unit {0}
unfolding lists_open frames_open search.letter_of search.searched search.ahead history.empty history.pushed history.past
    events.one_number events.with_second events.two_numbers events.exactly events.spelled events.closing events.of_type events.event_read
    extent.trial extent.closed extent.judged extent.begun extent.look
    tally.place_after tally.ended_by tally.ending_after tally.part_of tally.one_more
    tally.counts_after tally.trials_after tally.tally_after answers.paper_of answers.is_over
    section.start section.history_with section.answer_with section.fields_with section.history_after
    section.answer_after section.fields_after section.settled section.over section.tick
    calls.until calls.says calls.called
    sessions.last_call sessions.before sessions.calls_from sessions.calls_over
walk_open = tt

-- refusals 10 and 11, and whole walks
unfoldable pub whole_open : Unit {0}
unfolding walk_open known.among sound.known sound.sound_main sound.sound_slow sound.sound history.in_order history.sound
    refusals.cuts refusals.parts_of refusals.tally_sound refusals.admitted refusals.needed refusals.checked answers.handed
    answers.refusing answers.checked_first
    walks.counted_at walks.is_reached walks.is_last walks.walked walks.checked_state walks.through_of walks.filled_of
whole_open = tt

-- what calls of a walk show, step by step, and which frames predictors read
unfoldable pub runs_open : Unit {0}
unfolding walk_open calls.after runs.shown runs.is_intra runs.is_inter from.answer_from from.frame_at from.tried_at
    known.among histories.reads_last histories.reads_older histories.none_reads
runs_open = tt
