mod AnswerLemmas
mod FollowLemmas
mod PartLemmas
