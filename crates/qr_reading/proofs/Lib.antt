mod BitListLaws
mod DeinterleavingLaws
pub mod Laws
mod PayloadStepLaws
mod SegmentStepLaws
